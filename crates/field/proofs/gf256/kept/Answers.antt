-- The opposite of 0 is 0, and that of 1 has every bit set.
use Rattle.std.proofs.Common.{◌≡◌, ℕ, zero, suc, ◌+◌, ◌*◌, ◌%◌, ◌<◌, sym, ap, ◌∙◌, mod-eq_of_lt, mul-zero, mul-one, arith}
use lib.Bits.{bit_and, and_zero_r, and_mask}
use Rattle.field.proofs.gf256.kept.Goals as goal

masked : (a bit mask : ℕ) → a < 256 → bit < 2 → mask < 256 → (mask + bit) % 256 ≡ 0 → bit_and a mask ≡ a * bit
masked a zero mask ha hb hm e =
    let none : mask ≡ 0 = omega arith in
    ap (bit_and a) none ∙ and_zero_r a ∙ sym (mul-zero a)
masked a (suc zero) mask ha hb hm e =
    let all : mask ≡ 255 = omega arith in
    ap (bit_and a) all ∙ and_mask a 8 ∙ mod-eq_of_lt ha ∙ sym (mul-one a)
masked a (suc (suc bit)) mask ha hb hm e = absurd (omega arith)

pub returns : goal.returns
returns c =
    masked c.args.a c.args.bit c.wrapping_neg.result (omega arith) c.requires c.wrapping_neg.type_inv
    c.wrapping_neg.ensures
