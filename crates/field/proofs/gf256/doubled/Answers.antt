-- The modulus is taken off where the highest bit is 1.
use Rattle.std.proofs.Common.{◌*◌, ◌%◌, ◌<◌, sym, ap, ◌∙◌, arith}
use lib.Bits.{bit_xor}
use Rattle.field.specs.Bytes.{by_two, product_bytes}
use Rattle.field.proofs.gf256.doubled.Goals as goal

pub returns : goal.returns
returns c =
    let byte : c.args.a < 256 = omega arith in
    ap (bit_xor (c.args.a * 2 % 256)) c.kept.ensures
    ∙ by_two c.args.a byte
    ∙ sym (product_bytes 2 c.args.a (omega arith) byte)
