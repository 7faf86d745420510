-- Bytes under 11B are a field. Sums and products keep exclusive or, so a law of products need only be tested at the powers
-- of two; the reciprocal of each byte is tested. Assumes nothing.
use Rattle.std.specs.Prelude.{◌≡◌, ℕ, zero, suc, ◌*◌, ◌/◌, ◌%◌, ◌^◌, ◌<◌, true, ◌||◌, ◌≢◌, ◌==◌, bit_xor, nat_eq, refl}
use Rattle.std.proofs.Common.{sym, ap, ap₂, ◌∙◌, ⊎_elim, mul-zero, mul-one, mod-lt, arith}
use Rattle.std.specs.Int.Bits.{xor_zero_r, xor_self, xor_assoc, xor_shifted}
use Rattle.std.proofs.lemmas.Nat.{xor_comm, xor_lt}
use Rattle.std.proofs.Math.Pow.{split}
use Rattle.std.proofs.lemmas.Bool.{or_cases, eqb-true}
use Rattle.field.specs.Codes.{Laws}
use Rattle.field.specs.Polynomials.{times, reduce, remainder, OnlyRemainder, gf256}
use Rattle.field.specs.Every.{every, every_at}
use Rattle.field.specs.GuardLemmas.{OnCodes, guarded_laws, both_codes}
use Rattle.field.specs.Linear.{Linear, linear_same, linear_then, linear_shl, linear_agree, linear_zero}
use Rattle.field.specs.PolynomialsLemmas.{times-left, times_right, times_below, reduce_linear, reduce_below, only_remainder}

-- the product of two bytes
abbrev pub by : ℕ → ℕ → ℕ
by a b = remainder (times 8 a b)

by_left : (b : ℕ) → Linear (λ a. by a b)
by_left b = linear_then (times-left 8 b) (reduce_linear 7)

by_right : (a : ℕ) → Linear (by a)
by_right a = linear_then (times_right 8 a) (reduce_linear 7)

pub by_code : (a b : ℕ) → a < 256 → by a b < 256
by_code a b h = reduce_below 7 (times 8 a b) (times_below 8 7 a b h)

-- ---- commutative and associative

comm_test : every (λ i. every (λ j. nat_eq (by (2 ^ i) (2 ^ j)) (by (2 ^ j) (2 ^ i))) 8) 8 ≡ true
unfolding every times reduce
comm_test = refl

assoc_test : every (λ i. every (λ j. every (λ k. nat_eq (by (by (2 ^ i) (2 ^ j)) (2 ^ k)) (by (2 ^ i) (by (2 ^ j) (2 ^ k)))) 8) 8) 8 ≡ true
unfolding every times reduce
assoc_test = refl

comm_basis : (i j : ℕ) → i < 8 → j < 8 → by (2 ^ i) (2 ^ j) ≡ by (2 ^ j) (2 ^ i)
comm_basis i j hi hj = eqb-true (by (2 ^ i) (2 ^ j)) (by (2 ^ j) (2 ^ i)) (every_at _ 8 j (every_at _ 8 i comm_test hi) hj)

pub by_comm : (a b : ℕ) → a < 256 → b < 256 → by a b ≡ by b a
by_comm a b ha hb =
    linear_agree (by_left b) (by_right b) 8
    (λ i hi. linear_agree (by_right (2 ^ i)) (by_left (2 ^ i)) 8 (λ j hj. comm_basis i j hi hj) b hb) a ha

assoc_basis : (i j k : ℕ) → i < 8 → j < 8 → k < 8 → by (by (2 ^ i) (2 ^ j)) (2 ^ k) ≡ by (2 ^ i) (by (2 ^ j) (2 ^ k))
assoc_basis i j k hi hj hk =
    eqb-true (by (by (2 ^ i) (2 ^ j)) (2 ^ k)) (by (2 ^ i) (by (2 ^ j) (2 ^ k)))
    (every_at _ 8 k (every_at _ 8 j (every_at _ 8 i assoc_test hi) hj) hk)

pub by_assoc : (a b c : ℕ) → a < 256 → b < 256 → c < 256 → by (by a b) c ≡ by a (by b c)
by_assoc a b c ha hb hc = linear_agree (linear_then (by_left b) (by_left c)) (by_left (by b c)) 8 first a ha
  where
    second : (i j : ℕ) → i < 8 → j < 8 → by (by (2 ^ i) (2 ^ j)) c ≡ by (2 ^ i) (by (2 ^ j) c)
    second i j hi hj =
        linear_agree (by_right (by (2 ^ i) (2 ^ j))) (linear_then (by_right (2 ^ j)) (by_right (2 ^ i))) 8
        (λ k hk. assoc_basis i j k hi hj hk) c hc

    first : (i : ℕ) → i < 8 → by (by (2 ^ i) b) c ≡ by (2 ^ i) (by b c)
    first i hi =
        linear_agree (linear_then (by_right (2 ^ i)) (by_left c)) (linear_then (by_left c) (by_right (2 ^ i))) 8
        (λ j hj. second i j hi hj) b hb

-- ---- 1 is neutral, and every byte but 0 has a reciprocal

one_test : every (λ i. nat_eq (by (2 ^ i) 1) (2 ^ i)) 8 ≡ true
unfolding every times reduce
one_test = refl

pub by_one : (a : ℕ) → a < 256 → by a 1 ≡ a
by_one a ha = linear_agree (by_left 1) linear_same 8 (λ i hi. eqb-true (by (2 ^ i) 1) (2 ^ i) (every_at _ 8 i one_test hi)) a ha

abbrev pub square : ℕ → ℕ
square a = by a a

-- a to the power 2^k − 1
unfoldable pub raised : ℕ → ℕ → ℕ
raised zero a = 1
raised (suc k) a = by (square (raised k a)) a

-- a to the power 254
abbrev pub reciprocal : ℕ → ℕ
reciprocal a = square (raised 7 a)

pub raised-code : (k a : ℕ) → raised k a < 256
unfolding raised
raised-code zero a = omega arith
raised-code (suc k) a = by_code (square (raised k a)) a (by_code (raised k a) (raised k a) (raised-code k a))

reciprocal_test : every (λ a. (a == 0) || by a (reciprocal a) == 1) 256 ≡ true
unfolding every times reduce raised
reciprocal_test = refl

pub by_reciprocal : (a : ℕ) → a < 256 → a ≢ 0 → by a (reciprocal a) ≡ 1
by_reciprocal a ha na =
    ⊎_elim (λ e. absurd (na (eqb-true a 0 e))) (eqb-true (by a (reciprocal a)) 1)
    (or_cases (a == 0) (by a (reciprocal a) == 1) (every_at _ 256 a reciprocal_test ha))

-- ---- products by x, and products bit by bit

-- by 2: the bits move up, and where the highest was 1 the modulus is taken off
doubled_test : every (λ a. nat_eq (bit_xor (a * 2 % 256) (0x1B * (a / 128))) (by 2 a)) 256 ≡ true
unfolding every times reduce
doubled_test = refl

pub by_two : (a : ℕ) → a < 256 → bit_xor (a * 2 % 256) (0x1B * (a / 128)) ≡ by 2 a
by_two a h = eqb-true (bit_xor (a * 2 % 256) (0x1B * (a / 128))) (by 2 a) (every_at _ 256 a doubled_test h)

shifted_test : every (λ i. nat_eq (by (2 ^ i) 2) (2 ^ i * 2)) 7 ≡ true
unfolding every times reduce
shifted_test = refl

-- b by 2 where nothing is moved out
shifted_by : (b : ℕ) → b < 128 → by b 2 ≡ b * 2
shifted_by b h =
    linear_agree (by_left 2) (linear_shl 1) 7 (λ i hi. eqb-true (by (2 ^ i) 2) (2 ^ i * 2) (every_at _ 7 i shifted_test hi)) b h

pub by_zero : (a : ℕ) → by a 0 ≡ 0
by_zero a = linear_zero (by_right a)

by_bit : (a c : ℕ) → a < 256 → c < 2 → by a c ≡ a * c
by_bit a zero ha hc = by_zero a ∙ sym (mul-zero a)
by_bit a (suc zero) ha hc = by_one a ha ∙ sym (mul-one a)
by_bit a (suc (suc c)) ha hc = absurd (omega arith)

-- the product with b is twice that with b's bits but the lowest, and a where the lowest is 1
pub by_halves : (a b : ℕ) → a < 256 → b < 256 → by a b ≡ bit_xor (by 2 (by a (b / 2))) (a * (b % 2))
by_halves a b ha hb =
    ap (by a) (sym (xor_shifted (b / 2) 1 (b % 2) (mod-lt b (omega arith)) ∙ split b 1))
    ∙ (by_right a).keeps (b / 2 * 2) (b % 2)
    ∙ ap₂ bit_xor upper (by_bit a (b % 2) ha (mod-lt b (omega arith)))
  where
    two : by (by a (b / 2)) 2 ≡ by 2 (by a (b / 2))
    two = by_comm (by a (b / 2)) 2 (by_code a (b / 2) ha) (omega arith)

    upper : by a (b / 2 * 2) ≡ by 2 (by a (b / 2))
    upper = ap (by a) (sym (shifted_by (b / 2) (omega arith))) ∙ sym (by_assoc a (b / 2) 2 ha (omega arith) (omega arith)) ∙ two

-- ---- the laws

on_codes : OnCodes 1 256 bit_xor (λ a. a) by
on_codes =
    record {
      mark_byte = omega arith;
      size_least = omega arith;
      size_most = omega arith;
      add_code = xor_lt 8;
      neg_code = λ a h. h;
      mul_code = λ a b ha hb. by_code a b ha;
      add_comm = λ a b ha hb. xor_comm a b;
      mul_comm = by_comm;
      add_assoc = λ a b c ha hb hc. xor_assoc a b c;
      mul_assoc = by_assoc;
      mul_add = λ a b c ha hb hc. (by_right a).keeps b c;
      add_zero = λ a h. xor_zero_r a;
      mul_one = by_one;
      add_neg = λ a h. xor_self a;
      mul_inverse = λ a h n. (reciprocal a, by_code (raised 7 a) (raised 7 a) (raised-code 7 a), by_reciprocal a h n);
    }

pub gf256_laws : Laws gf256
gf256_laws = guarded_laws on_codes

-- of two bytes the field's product is the product's remainder
pub product_bytes : (a b : ℕ) → a < 256 → b < 256 → gf256.mul a b ≡ by a b
product_bytes = both_codes 256 by

pub product_only : (a b : ℕ) → a < 256 → OnlyRemainder (times 8 a b) (by a b)
product_only a b h = only_remainder 7 (times 8 a b) (times_below 8 7 a b h)
