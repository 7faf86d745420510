-- The outer loop: every group whose rank is not yet below has the property. The inner loop: the cards that are held, and
-- then those that the rest of the rank holds, are the members of the rank.
use Rattle.std.proofs.Common.{◌≡◌, ℕ, ◌-◌, ◌^◌, ◌<◌, ◌≤◌, List, ◌++◌, length}
use Rattle.sharing.specs.Groups.{Group}
use Rattle.sharing.specs.Lent.{lent_plan}
use Rattle.plan_check.specs.Checks.{group_size, Passes}
use Rattle.plan_check.proofs.Ranks.{rank, members}
use Rattle.plan_check.proofs.groups.first_failing.Given as goal

abbrev pub invariant-groups : goal.invariant-groups
invariant-groups g l =
    (l.rank ≤ 2 ^ l.plan.plan.n)
    × ((h : List ℕ) → Group l.plan.plan.n (group_size l.property l.plan.plan.t) h → l.rank ≤ rank l.plan.plan.n h
    → Passes l.property g.F.Field.ops (lent_plan l.plan.plan) h)

abbrev pub invariant-loop-card : goal.invariant-loop-card
invariant-loop-card g l =
    (length l.group.items ≤ l.card)
    × (members 0 l.plan.plan.n l.rank ≡ l.group.items ++ members l.card (l.plan.plan.n - l.card) l.left)
    × (l.left < 2 ^ (l.plan.plan.n - l.card))

abbrev pub decreases-groups : goal.decreases-groups
decreases-groups g l = l.rank
