-- What the loop has passed is added, and the rest is as it was.
use Rattle.std.proofs.Common.{◌≡◌, ℕ, ◌+◌, ◌/◌, ◌%◌, ◌<◌, ◌≤◌, get_or}
use Rattle.linear.specs.Pivots.{entry}
use Rattle.opening.specs.Quorums.{signed}
use Rattle.opening.proofs.quorum.Quorum.add_words.Given as goal

abbrev pub invariant-loop-y : goal.invariant-loop-y
invariant-loop-y g l =
    ((k : ℕ) → k < l.y
    → get_or l.sums k 0
    ≡ g.F.Field.ops.add (get_or l.initial.sums k 0)
    (signed g.F.Field.ops l.i (entry (l.t + l.b) l.matrix (k / l.b) (l.t + k % l.b))))
    × ((k : ℕ) → l.y ≤ k → get_or l.sums k 0 ≡ get_or l.initial.sums k 0)
