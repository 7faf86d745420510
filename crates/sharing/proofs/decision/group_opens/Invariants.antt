-- The rows of the cards so far send no word but zero to zeros.
use Rattle.std.proofs.Common.{ℕ, ◌<◌}
use Rattle.sharing.specs.Lent.{lent_plan}
use Rattle.sharing.specs.Systems.{OnlyZero, opening_matrix}
use Rattle.sharing.proofs.decision.group_opens.Given as goal

abbrev pub invariant-loop-i : goal.invariant-loop-i
invariant-loop-i g l = (k : ℕ) → k < l.i → OnlyZero g.F.Field.ops l.plan.plan.t (opening_matrix (lent_plan l.plan.plan) l.group k)
