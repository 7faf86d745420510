-- Functions that keep exclusive or: two of them that agree at the powers of two agree everywhere. Assumes nothing.
use Rattle.std.specs.Prelude.{◌≡◌, ℕ, zero, suc, ◌*◌, ◌/◌, ◌%◌, ◌^◌, ◌<◌, bit_xor, refl}
use Rattle.std.proofs.Common.{sym, ap, ap₂, ◌∙◌, add-zero, mul-zero, mul-one, one-mul, zero-mul, mod-lt, one-add, arith, pow_pos, shr_lt}
use Rattle.std.specs.Int.Bits.{xor_zero_r, xor_self, xor_assoc, xor_shifted}
use Rattle.std.proofs.lemmas.Nat.{xor_comm, xor_shr, xor_mod, xor_block}
use Rattle.std.proofs.Math.Arith.{lt-one}
use Rattle.std.proofs.Math.Pow.{split}

-- f of an exclusive or is the exclusive or of both answers
pub record Linear (f : ℕ → ℕ) : Type 0 where
  pub keeps : (x y : ℕ) → f (bit_xor x y) ≡ bit_xor (f x) (f y)

pub xor_swap : (a b c d : ℕ) → bit_xor (bit_xor a b) (bit_xor c d) ≡ bit_xor (bit_xor a c) (bit_xor b d)
xor_swap a b c d =
    xor_assoc a b (bit_xor c d)
    ∙ ap (bit_xor a) (sym (xor_assoc b c d) ∙ ap (λ x. bit_xor x d) (xor_comm b c) ∙ xor_assoc c b d)
    ∙ sym (xor_assoc a c (bit_xor b d))

-- what is put on twice is gone
pub xor_twice : (a b : ℕ) → bit_xor (bit_xor a b) b ≡ a
xor_twice a b = xor_assoc a b b ∙ ap (bit_xor a) (xor_self b) ∙ xor_zero_r a

-- from a to c by way of b
pub xor_chain : (a b c : ℕ) → bit_xor a c ≡ bit_xor (bit_xor a b) (bit_xor b c)
xor_chain a b c = sym (sym (xor_assoc (bit_xor a b) b c) ∙ ap (λ x. bit_xor x c) (xor_twice a b))

pub xor_equal : (a b : ℕ) → bit_xor a b ≡ 0 → a ≡ b
xor_equal a b e = sym (xor_twice a b) ∙ ap (λ x. bit_xor x b) e

-- ---- functions that keep exclusive or

pub linear_same : Linear (λ x. x)
linear_same = record { keeps = λ x y. refl }

pub linear_then : {f g : ℕ → ℕ} → Linear f → Linear g → Linear (λ x. g (f x))
linear_then {f} {g} p q = record { keeps = λ x y. ap g (p.keeps x y) ∙ q.keeps (f x) (f y) }

pub linear_xor : {f g : ℕ → ℕ} → Linear f → Linear g → Linear (λ x. bit_xor (f x) (g x))
linear_xor {f} {g} p q = record { keeps = λ x y. ap₂ bit_xor (p.keeps x y) (q.keeps x y) ∙ xor_swap (f x) (f y) (g x) (g y) }

pub linear_shl : (k : ℕ) → Linear (λ x. x * 2 ^ k)
linear_shl k =
    record {
      keeps = λ x y. sym
          (ap₂ bit_xor (sym (add-zero (x * 2 ^ k))) (sym (add-zero (y * 2 ^ k)))
          ∙ xor_block k x y 0 0 (pow_pos k) (pow_pos k)
          ∙ add-zero (bit_xor x y * 2 ^ k));
    }

pub linear_shr : (k : ℕ) → Linear (λ x. x / 2 ^ k)
linear_shr k = record { keeps = λ x y. xor_shr x y k }

-- x where the bit c is 1, and else 0
pub linear_kept : (c : ℕ) → c < 2 → Linear (λ x. x * c)
linear_kept zero h = record { keeps = λ x y. rw (mul-zero (bit_xor x y), mul-zero x, mul-zero y) }
linear_kept (suc zero) h = record { keeps = λ x y. rw (mul-one (bit_xor x y), mul-one x, mul-one y) }
linear_kept (suc (suc c)) h = absurd (omega arith)

chosen-bits : (c a b : ℕ) → a < 2 → b < 2 → c * bit_xor a b ≡ bit_xor (c * a) (c * b)
chosen-bits c zero b ha hb = rw (mul-zero c)
chosen-bits c (suc zero) zero ha hb = rw (mul-zero c, xor_zero_r (c * 1))
chosen-bits c (suc zero) (suc zero) ha hb = mul-zero c ∙ sym (xor_self (c * 1))
chosen-bits c (suc zero) (suc (suc b)) ha hb = absurd (omega arith)
chosen-bits c (suc (suc a)) b ha hb = absurd (omega arith)

-- c where the lowest bit of x is 1, and else 0
pub linear_chosen : (c : ℕ) → Linear (λ x. c * (x % 2))
linear_chosen c =
    record {
      keeps = λ x y. ap (λ z. c * z) (xor_mod x y 1)
          ∙ chosen-bits c (x % 2) (y % 2) (mod-lt x (omega arith)) (mod-lt y (omega arith));
    }

pub linear_zero : {f : ℕ → ℕ} → Linear f → f 0 ≡ 0
linear_zero {f} p = p.keeps 0 0 ∙ xor_self (f 0)

-- x as the bit of 2 ^ k and the bits below
halved : (k x : ℕ) → x ≡ bit_xor (x / 2 ^ k * 2 ^ k) (x % 2 ^ k)
halved k x = sym (xor_shifted (x / 2 ^ k) k (x % 2 ^ k) (mod-lt x (pow_pos k)) ∙ split x k)

-- two that agree at the powers of two below 2 ^ k agree at each number below 2 ^ k
pub linear_agree : {f g : ℕ → ℕ} → Linear f → Linear g → (k : ℕ) → ((i : ℕ) → i < k → f (2 ^ i) ≡ g (2 ^ i))
    → (x : ℕ) → x < 2 ^ k → f x ≡ g x
linear_agree {f} {g} p q zero same x h = ap f (lt-one h) ∙ linear_zero p ∙ sym (linear_zero q) ∙ ap g (sym (lt-one h))
linear_agree {f} {g} p q (suc k) same x h =
    parts p ∙ ap₂ bit_xor top (linear_agree p q k (λ i l. same i (omega arith)) (x % 2 ^ k) (mod-lt x (pow_pos k))) ∙ sym (parts q)
  where
    parts : {e : ℕ → ℕ} → Linear e → e x ≡ bit_xor (e (x / 2 ^ k * 2 ^ k)) (e (x % 2 ^ k))
    parts {e} r = ap e (halved k x) ∙ r.keeps (x / 2 ^ k * 2 ^ k) (x % 2 ^ k)

    at : (c : ℕ) → c < 2 → f (c * 2 ^ k) ≡ g (c * 2 ^ k)
    at zero l = rw (zero-mul (2 ^ k)) (linear_zero p ∙ sym (linear_zero q))
    at (suc zero) l = rw (one-mul (2 ^ k)) (same k (omega arith))
    at (suc (suc c)) l = absurd (omega arith)

    top : f (x / 2 ^ k * 2 ^ k) ≡ g (x / 2 ^ k * 2 ^ k)
    top = at (x / 2 ^ k) (shr_lt 1 k (rw (one-add k) h))
