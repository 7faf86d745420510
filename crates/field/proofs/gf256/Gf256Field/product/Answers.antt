-- Each turn takes one more bit of b, from the highest down.
use Rattle.std.proofs.Common.{◌≡◌, ℕ, ◌+◌, ◌-◌, ◌*◌, ◌/◌, ◌^◌, ◌<◌, sym, ap, ◌∙◌, subst, ap₂, arith, shr-shr}
use lib.Arith.{le-zero}
use lib.Bits.{bit_and, bit_xor, and_mask}
use lib.Pow.{shr_le}
use Rattle.field.specs.Polynomials.{times, OnlyRemainder, gf256}
use Rattle.field.specs.Bytes.{by, by_zero, by_code, by_halves, product_bytes, product_only}
use Rattle.field.proofs.gf256.Gf256Field.product.Goals as goal

pub loop-i-init : goal.loop-i-init
loop-i-init c = let none : c.args.b / 256 ≡ 0 = omega arith in sym (ap (by c.args.a) none ∙ by_zero c.args.a)

-- one turn: twice the product so far, and a where the next bit of b is 1
turn : (a b i product twice part : ℕ) → a < 256 → b < 256 → 0 < i → product ≡ by a (b / 2 ^ i)
    → twice ≡ gf256.mul 2 product → part ≡ a * bit_and (b / 2 ^ (i - 1)) 1 → bit_xor twice part ≡ by a (b / 2 ^ (i - 1))
turn a b i product twice part ha hb hi e t p =
    ap₂ bit_xor
    (t ∙ ap (gf256.mul 2) (e ∙ ap (by a) upper) ∙ product_bytes 2 (by a (b / 2 ^ (i - 1) / 2)) (omega arith) (by_code a (b / 2 ^ (i - 1) / 2) ha))
    (p ∙ ap (λ x. a * x) (and_mask (b / 2 ^ (i - 1)) 1))
    ∙ sym (by_halves a (b / 2 ^ (i - 1)) ha (omega (arith, shr_le b (i - 1))))
  where
    last : i ≡ i - 1 + 1
    last = omega arith

    upper : b / 2 ^ i ≡ b / 2 ^ (i - 1) / 2
    upper = ap (λ x. b / 2 ^ x) last ∙ sym (shr-shr b (i - 1) 1)

pub loop-i-preserved : goal.loop-i-preserved
loop-i-preserved c =
    turn c.args.a c.args.b c.loop-i.i c.loop-i.product c.doubled.result c.kept.result
    (omega arith) (omega arith) (omega arith) c.loop-i.invariant c.doubled.ensures c.kept.ensures

pub returns : goal.returns
returns c =
    record {
      value = whole ∙ sym (product_bytes c.args.a c.args.b (omega arith) (omega arith));
      only = subst (OnlyRemainder (times 8 c.args.a c.args.b)) (sym whole) (product_only c.args.a c.args.b (omega arith));
    }
  where
    every : c.args.b / 1 ≡ c.args.b
    every = omega arith

    whole : c.loop-i.product ≡ by c.args.a c.args.b
    whole =
        c.loop-i.invariant ∙ ap (λ i. by c.args.a (c.args.b / 2 ^ i)) (le-zero c.loop-i-test.false)
        ∙ ap (by c.args.a) every
