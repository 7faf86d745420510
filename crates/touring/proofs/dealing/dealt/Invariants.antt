-- There is a line for each card so far.
use Rattle.std.proofs.Common.{◌≡◌, vec_len}
use Rattle.touring.proofs.dealing.dealt.Given as goal

abbrev pub invariant-loop-j : goal.invariant-loop-j
invariant-loop-j g l = vec_len l.cards ≡ l.j
