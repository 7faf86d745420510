-- Products of polynomials and remainders by 11B keep sums, and a remainder by 11B is the only one. Assumes nothing.
use Rattle.std.specs.Prelude.{◌≡◌, ℕ, zero, suc, ◌+◌, ◌*◌, ◌/◌, ◌%◌, ◌^◌, ◌<◌, ◌≤◌, ◌⊎◌, bit_xor, refl}
use Rattle.std.proofs.Common.{sym, ap, ap₂, ◌∙◌, inl, inr, ⊎_elim, add-zero, add-suc, add_comm, mul-zero, mul-one, one-mul, mul_assoc, mod-lt, mod-eq_of_lt, pow-suc, div-lt_iff_lt-mul, one-add, add-one, arith, pow_pos, pow_mono, shr_lt, shr-shr}
use Rattle.std.proofs.Math.Nat.{mod-one}
use Rattle.std.specs.Int.Bits.{xor_zero_r, xor_self, xor_assoc, shifted_even, shifted_half}
use Rattle.std.proofs.lemmas.Nat.{xor_comm, xor_shr, xor_lt, shl-shr}
use Rattle.std.proofs.Math.Pow.{mod-mod-pow, field}
use Rattle.field.specs.Polynomials.{times, reduce, Multiple, OnlyRemainder}
use Rattle.field.specs.Linear.{Linear, linear_same, linear_then, linear_xor, linear_shl, linear_shr, linear_kept, linear_chosen, linear_zero, xor_chain, xor_equal}

-- ---- products

pub times-left : (k b : ℕ) → Linear (λ a. times k a b)
unfolding times
times-left zero b = record { keeps = λ x y. refl }
times-left (suc k) b = linear_xor (linear_kept (b % 2) (mod-lt b (omega arith))) (linear_then (times-left k (b / 2)) (linear_shl 1))

pub times_right : (k a : ℕ) → Linear (λ b. times k a b)
unfolding times
times_right zero a = record { keeps = λ x y. refl }
times_right (suc k) a =
    linear_xor (linear_chosen a) (linear_then (linear_then (linear_shr 1) (times_right k a)) (linear_shl 1))

times_step : (k a b : ℕ) → times (suc k) a b ≡ bit_xor (a * (b % 2)) (times k a (b / 2) * 2)
unfolding times
times_step k a b = refl

times_none : (a b : ℕ) → times 0 a b ≡ 0
unfolding times
times_none a b = refl

times_one : (a b : ℕ) → times 1 a b ≡ a * (b % 2)
unfolding times
times_one a b = xor_zero_r (a * (b % 2))

kept_le : (a c : ℕ) → c < 2 → a * c ≤ a
kept_le a zero h = omega (arith, mul-zero a)
kept_le a (suc zero) h = omega (arith, mul-one a)
kept_le a (suc (suc c)) h = absurd (omega arith)

-- the degree of a product
pub times_below : (n k a b : ℕ) → a < 2 ^ n → times (suc k) a b < 2 ^ (n + k)
times_below n zero a b h =
    rw (times_one a b, add-zero n) (omega (arith, kept_le a (b % 2) (mod-lt b (omega arith))))
times_below n (suc k) a b h =
    rw (times_step (suc k) a b, add-suc n k)
    (xor_lt (suc (n + k)) (a * (b % 2)) (times (suc k) a (b / 2) * 2) low (high (times_below n k a (b / 2) h)))
  where
    low : a * (b % 2) < 2 ^ suc (n + k)
    low = omega (arith, kept_le a (b % 2) (mod-lt b (omega arith)), pow_mono {i = n} {j = suc (n + k)} (omega arith))

    high : times (suc k) a (b / 2) < 2 ^ (n + k) → times (suc k) a (b / 2) * 2 < 2 ^ suc (n + k)
    high below = omega (arith, pow-suc 2 (n + k))

-- the coefficients past the degree do not count
times-wide : (j k a m : ℕ) → times (j + k) a (m % 2 ^ k) ≡ times k a m
times-wide j zero a m = ap (times (j + 0) a) (mod-one m) ∙ linear_zero (times_right (j + 0) a) ∙ sym (times_none a m)
times-wide j (suc k) a m =
    ap (λ w. times w a (m % 2 ^ suc k)) (add-suc j k)
    ∙ times_step (j + k) a (m % 2 ^ suc k)
    ∙ ap₂ (λ x y. bit_xor (a * x) (times (j + k) a y * 2)) (lowest m k) (upper m k)
    ∙ ap (λ x. bit_xor (a * (m % 2)) (x * 2)) (times-wide j k a (m / 2))
    ∙ sym (times_step k a m)
  where
    lowest : (x i : ℕ) → x % 2 ^ suc i % 2 ≡ x % 2
    lowest x i = rw (← add-one i) (mod-mod-pow x i 1)

    upper : (x i : ℕ) → x % 2 ^ suc i / 2 ≡ x / 2 % 2 ^ i
    upper x i = rw (← add-one i) (field x i 1)

-- a times x^k
times_power : (k a c : ℕ) → c < 2 → times (suc k) a (c * 2 ^ k) ≡ a * c * 2 ^ k
times_power zero a c h = times_one a (c * 1) ∙ rw (mul-one c, mod-eq_of_lt h, mul-one (a * c))
times_power (suc k) a c h =
    times_step (suc k) a (c * 2 ^ suc k)
    ∙ ap₂ (λ x y. bit_xor (a * x) (times (suc k) a y * 2)) (shifted_even c k) (shifted_half c k)
    ∙ ap₂ bit_xor (mul-zero a) (ap (λ x. x * 2) (times_power k a c h))
    ∙ mul_assoc (a * c) (2 ^ k) 2
    ∙ ap (λ x. a * c * x) (sym (pow-suc 2 k))

-- ---- remainders

pub reduce_linear : (k : ℕ) → Linear (reduce k)
unfolding reduce
reduce_linear zero = linear_same
reduce_linear (suc k) =
    linear_then
    (linear_xor linear_same (linear_then (linear_then (linear_shr (8 + k)) (linear_chosen 0x11B)) (linear_shl k)))
    (reduce_linear k)

-- 11B times x^k has the coefficient 1 of x^(8 + k)
modulus_top : (k c : ℕ) → c < 2 → 0x11B * c * 2 ^ k / 2 ^ (8 + k) ≡ c
modulus_top k c h =
    ap (λ e. 0x11B * c * 2 ^ k / 2 ^ e) (add_comm 8 k)
    ∙ sym (shr-shr (0x11B * c * 2 ^ k) k 8)
    ∙ ap (λ x. x / 256) (shl-shr (0x11B * c) k)
    ∙ omega arith

no_quotient : (k x : ℕ) → x / 2 ^ k ≡ 0 → x < 2 ^ k
no_quotient k x e = rw (one-mul (2 ^ k)) at ((div-lt_iff_lt-mul {x = x} {y = 1} (pow_pos k)).0 (omega arith))

-- a step takes the highest coefficient off
taken_off : (k p : ℕ) → p < 2 ^ (8 + suc k) → bit_xor p (0x11B * (p / 2 ^ (8 + k) % 2) * 2 ^ k) < 2 ^ (8 + k)
taken_off k p h = no_quotient (8 + k) (bit_xor p (0x11B * (p / 2 ^ (8 + k) % 2) * 2 ^ k)) gone
  where
    top : p / 2 ^ (8 + k) < 2
    top = shr_lt 1 (8 + k) (rw (one-add (8 + k), ← add-suc 8 k) h)

    gone : bit_xor p (0x11B * (p / 2 ^ (8 + k) % 2) * 2 ^ k) / 2 ^ (8 + k) ≡ 0
    gone =
        xor_shr p (0x11B * (p / 2 ^ (8 + k) % 2) * 2 ^ k) (8 + k)
        ∙ ap (bit_xor (p / 2 ^ (8 + k))) (modulus_top k (p / 2 ^ (8 + k) % 2) (mod-lt (p / 2 ^ (8 + k)) (omega arith)) ∙ mod-eq_of_lt top)
        ∙ xor_self (p / 2 ^ (8 + k))

-- a remainder is a byte
pub reduce_below : (k p : ℕ) → p < 2 ^ (8 + k) → reduce k p < 256
unfolding reduce
reduce_below zero p h = h
reduce_below (suc k) p h = reduce_below k (bit_xor p (0x11B * (p / 2 ^ (8 + k) % 2) * 2 ^ k)) (taken_off k p h)

-- ---- multiples of 11B

multiple_xor : (d e : ℕ) → Multiple d → Multiple e → Multiple (bit_xor d e)
multiple_xor d e (k, m, p) (j, n, q) = (
  j + k,
  bit_xor (m % 2 ^ k) (n % 2 ^ j),
  ap₂ bit_xor (p ∙ sym (times-wide j k 0x11B m)) (q ∙ sym (times-wide k j 0x11B n) ∙ ap (λ w. times w 0x11B (n % 2 ^ j)) (add_comm k j))
      ∙ sym ((times_right (j + k) 0x11B).keeps (m % 2 ^ k) (n % 2 ^ j)),
)

-- p and its remainder differ by a multiple
pub reduce_multiple : (k p : ℕ) → Multiple (bit_xor p (reduce k p))
unfolding reduce
reduce_multiple zero p = (0, 0, xor_self p ∙ sym (times_none 0x11B 0))
reduce_multiple (suc k) p =
    rw (xor_chain p q (reduce k q)) (multiple_xor (bit_xor p q) (bit_xor q (reduce k q)) first (reduce_multiple k q))
  where
    c : ℕ
    c = p / 2 ^ (8 + k) % 2

    q : ℕ
    q = bit_xor p (0x11B * c * 2 ^ k)

    first : Multiple (bit_xor p q)
    first = (
      suc k,
      c * 2 ^ k,
      sym (xor_assoc p p (0x11B * c * 2 ^ k)) ∙ ap (λ x. bit_xor x (0x11B * c * 2 ^ k)) (xor_self p)
          ∙ sym (times_power k 0x11B c (mod-lt (p / 2 ^ (8 + k)) (omega arith))),
    )

-- a multiple other than 0 has a degree of 8 or more
multiple_large : (k m : ℕ) → (times k 0x11B m ≡ 0) ⊎ (256 ≤ times k 0x11B m)
multiple_large zero m = inl (times_none 0x11B m)
multiple_large (suc k) m = ⊎_elim (λ e. none e (m % 2) refl) (λ l. inr (some l)) (multiple_large k (m / 2))
  where
    value : times k 0x11B (m / 2) ≡ 0 → times (suc k) 0x11B m ≡ 0x11B * (m % 2)
    value e = times_step k 0x11B m ∙ ap (λ x. bit_xor (0x11B * (m % 2)) (x * 2)) e ∙ xor_zero_r (0x11B * (m % 2))

    low : 0x11B * (m % 2) / 512 ≡ 0
    low = omega arith

    high : times (suc k) 0x11B m / 512 ≡ times k 0x11B (m / 2) * 2 / 512
    high =
        ap (λ x. x / 512) (times_step k 0x11B m)
        ∙ xor_shr (0x11B * (m % 2)) (times k 0x11B (m / 2) * 2) 9
        ∙ ap (λ x. bit_xor x (times k 0x11B (m / 2) * 2 / 512)) low

    none : times k 0x11B (m / 2) ≡ 0 → (c : ℕ) → m % 2 ≡ c → (times (suc k) 0x11B m ≡ 0) ⊎ (256 ≤ times (suc k) 0x11B m)
    none e zero b = inl (omega (arith, value e))
    none e (suc c) b = inr (omega (arith, value e))

    some : 256 ≤ times k 0x11B (m / 2) → 256 ≤ times (suc k) 0x11B m
    some l = omega (arith, high)

-- two bytes that differ from p by a multiple are equal
congruent_equal : (p r s : ℕ) → r < 256 → s < 256 → Multiple (bit_xor p r) → Multiple (bit_xor p s) → s ≡ r
congruent_equal p r s hr hs mr ms = xor_equal s r (zero (rw (xor_chain s p r, xor_comm s p) (multiple_xor (bit_xor p s) (bit_xor p r) ms mr)))
  where
    zero : Multiple (bit_xor s r) → bit_xor s r ≡ 0
    zero (k, m, e) =
        ⊎_elim (λ n. e ∙ n) (λ l. absurd (omega (arith, e, xor_lt 8 s r hs hr))) (multiple_large k m)

-- what `reduce` gives is the only remainder
pub only_remainder : (k p : ℕ) → p < 2 ^ (8 + k) → OnlyRemainder p (reduce k p)
only_remainder k p h =
    record {
      byte = reduce_below k p h;
      congruent = reduce_multiple k p;
      only = λ s hs ms. congruent_equal p (reduce k p) s (reduce_below k p h) hs (reduce_multiple k p) ms;
    }
