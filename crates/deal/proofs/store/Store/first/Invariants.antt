-- The sum over the blocks so far.
use Rattle.std.proofs.Common.{◌≡◌}
use Rattle.field.specs.Codes.{sum}
use Rattle.sharing.specs.Scheme.{stored}
use Rattle.deal.proofs.store.Store.first.Given as goal

abbrev pub invariant-loop-i : goal.invariant-loop-i
invariant-loop-i g l =
    l.total ≡ sum g.F.Field.ops l.i (λ i. stored l.self.t l.self.lanes l.self.numbers.now i l.p l.e)
