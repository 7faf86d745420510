-- The number of the bytes so far.
use Rattle.std.proofs.Common.{◌≡◌}
use Rattle.lines.specs.Digits.{numeral}
use Rattle.lines.proofs.mark.DealMark.of.Given as goal

abbrev pub invariant-loop-byte : goal.invariant-loop-byte
invariant-loop-byte l = l.number ≡ numeral l.yielded
