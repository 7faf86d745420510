-- The numbers so far are cast.
use Rattle.std.proofs.Common.{◌≡◌, ℕ, ◌<◌, length, get_or}
use Rattle.linear.specs.Casting.{cast}
use Rattle.linear.specs.Systems.{numbers}
use Rattle.linear.proofs.casting.cast_word.Given as goal

abbrev pub invariant-loop-c : goal.invariant-loop-c
invariant-loop-c g l =
    (i : ℕ) → i < l.c → get_or l.out i 0 ≡ cast g.F.Field.ops (length l.word) l.given (numbers l.word) i
