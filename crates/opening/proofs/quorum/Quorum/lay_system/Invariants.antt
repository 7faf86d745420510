-- What has been laid so far is the system.
use Rattle.std.proofs.Common.{◌≡◌, ℕ, ◌/◌, ◌%◌, ◌<◌, get_or}
use Rattle.opening.specs.Lent.{gathered}
use Rattle.opening.specs.Quorums.{system}
use Rattle.opening.proofs.quorum.Quorum.lay_system.Given as goal

abbrev pub invariant-loop-y : goal.invariant-loop-y
invariant-loop-y g l =
    (k : ℕ) → k < l.y → get_or l.matrix k 0 ≡ system (gathered l.self) l.i (k / l.width) (k % l.width)
