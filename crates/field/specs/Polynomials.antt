-- Polynomials over bits, written as numbers: bit i is the coefficient of x^i, and a sum is an exclusive or. The field of
-- FIPS 197 has the polynomials of degree below 8, the bytes, and multiplies modulo 11B, x^8 + x^4 + x^3 + x + 1.
-- Assumes nothing.
--   times           the product
--   remainder       the remainder by 11B
--   Multiple        11B times some polynomial
--   OnlyRemainder   the byte that differs from p by a multiple of 11B, the only one
--   gf256           the field's operations
use Rattle.std.specs.Prelude.{◌≡◌, ℕ, zero, suc, ◌+◌, ◌*◌, ◌/◌, ◌%◌, ◌^◌, ◌<◌, bit_xor}
use Rattle.field.specs.Codes.{Operations}
use Rattle.field.specs.Guard.{guarded}

-- a times the k lowest coefficients of b
unfoldable pub times : ℕ → ℕ → ℕ → ℕ
times zero a b = 0
times (suc k) a b = bit_xor (a * (b % 2)) (times k a (b / 2) * 2)

-- long division of p, of degree below 8 + k: from i = k − 1 down to 0, 11B times x^i is taken off where the coefficient of
-- x^(8 + i) is 1
unfoldable pub reduce : ℕ → ℕ → ℕ
reduce zero p = p
reduce (suc k) p = reduce k (bit_xor p (0x11B * (p / 2 ^ (8 + k) % 2) * 2 ^ k))

-- the remainder by 11B of the product of two bytes, which has a degree below 15
abbrev pub remainder : ℕ → ℕ
remainder p = reduce 7 p

-- d is 11B times some polynomial: the k lowest coefficients of some m
abbrev pub Multiple : ℕ → Type 0
Multiple d = (k : ℕ) × (m : ℕ) × (d ≡ times k 0x11B m)

-- r is a byte that differs from p by a multiple of 11B, and the only one
pub record OnlyRemainder (p r : ℕ) : Type 0 where
  pub byte : r < 256
  pub congruent : Multiple (bit_xor p r)
  pub only : (s : ℕ) → s < 256 → Multiple (bit_xor p s) → s ≡ r

-- field 01: a sum is an exclusive or, each number is its own opposite, a product is the product's remainder by 11B
abbrev pub gf256 : Operations
gf256 = guarded 1 256 bit_xor (λ a. a) (λ a b. remainder (times 8 a b))
