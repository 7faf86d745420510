-- Each place that the loop has passed holds its Cauchy number.
use Rattle.std.proofs.Common.{◌≡◌, ℕ, ◌+◌, ◌/◌, ◌%◌, ◌<◌, get_or}
use Rattle.field.specs.Rows.{cauchy}
use Rattle.field.proofs.rows.cauchy_rows.Given as goal

abbrev pub invariant-loop-i : goal.invariant-loop-i
invariant-loop-i g l = (k : ℕ) → k < l.i → get_or l.rows k 0 ≡ cauchy g.F.Field.ops (l.t + k / l.t) (k % l.t)
