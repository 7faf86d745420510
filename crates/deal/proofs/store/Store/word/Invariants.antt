-- The numbers so far are the word's.
use Rattle.std.proofs.Common.{◌≡◌, ℕ, ◌<◌, get_or}
use Rattle.sharing.specs.Scheme.{word}
use Rattle.deal.proofs.store.Store.word.Given as goal

abbrev pub invariant-loop-p : goal.invariant-loop-p
invariant-loop-p g l =
    (k : ℕ) → k < l.p
    → get_or l.number-items k 0 ≡ word g.F.Field.ops l.self.t l.self.lanes l.self.numbers.now l.i l.e k
