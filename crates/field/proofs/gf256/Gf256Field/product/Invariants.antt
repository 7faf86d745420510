-- Before the bit i is taken, the product is that of a with the bits of b from i on.
use Rattle.std.proofs.Common.{◌≡◌, ◌/◌, ◌^◌}
use Rattle.field.specs.Bytes.{by}
use Rattle.field.proofs.gf256.Gf256Field.product.Given as goal

abbrev pub invariant-loop-i : goal.invariant-loop-i
invariant-loop-i l = l.product ≡ by l.a (l.b / 2 ^ l.i)
