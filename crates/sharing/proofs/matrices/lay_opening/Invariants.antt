-- Each place that the loop has passed holds its entry.
use Rattle.std.proofs.Common.{◌≡◌, ℕ, ◌/◌, ◌%◌, ◌<◌, get_or}
use Rattle.sharing.specs.Lent.{lent_plan}
use Rattle.sharing.specs.Systems.{opening_matrix}
use Rattle.sharing.proofs.matrices.lay_opening.Given as goal

abbrev pub invariant-loop-x : goal.invariant-loop-x
invariant-loop-x g l =
    (k : ℕ) → k < l.x → get_or l.matrix k 0 ≡ opening_matrix (lent_plan l.plan.plan) l.group l.i (k / l.t) (k % l.t)
