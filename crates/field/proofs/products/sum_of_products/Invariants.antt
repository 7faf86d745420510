-- After p turns the total is the sum of the first p products.
use Rattle.std.proofs.Common.{◌≡◌, length, get_or}
use Rattle.field.specs.Codes.{sum}
use Rattle.field.proofs.products.sum_of_products.Given as goal

abbrev pub invariant-loop-a : goal.invariant-loop-a
invariant-loop-a g l =
    l.total ≡ sum g.F.Field.ops (length l.yielded) (λ p. g.F.Field.ops.mul (get_or l.row p 0) (get_or l.word p 0))
