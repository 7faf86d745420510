-- After k turns the power is 2^k − 1.
use Rattle.std.proofs.Common.{◌≡◌}
use Rattle.field.specs.Bytes.{raised}
use Rattle.field.proofs.gf256.Gf256Field.reciprocal.Given as goal

abbrev pub invariant-loop : goal.invariant-loop
invariant-loop l = l.power ≡ raised l.counter l.a
