-- The numbers that are laid so far.
use Rattle.std.proofs.Common.{◌≡◌, length}
use lib.Seq.{paste}
use Rattle.lines.specs.Digits.{spelled}
use Rattle.slot.proofs.state.lay.Given as goal

abbrev pub invariant-loop-i : goal.invariant-loop-i
invariant-loop-i l = l.memory ≡ paste l.initial.memory l.at (spelled l.fn.«data».digits.now) (length l.yielded)
