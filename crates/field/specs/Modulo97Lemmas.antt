-- The numbers modulo 97 keep the laws of a field. Assumes nothing.
use Rattle.std.specs.Prelude.{◌≡◌, ℕ, ◌+◌, ◌-◌, ◌*◌, ◌/◌, ◌%◌, ◌<◌, ◌≤◌, Bool, ◌||◌, ◌≢◌, ◌⊎◌, Some, None, ◌==◌, refl}
use Rattle.std.proofs.Common.{sym, ap, ◌∙◌, ⊎_elim, arith, mul_comm, mul_assoc, mul-add}
use Rattle.std.proofs.Math.Nat.{mul-add-mod_self_left, add-mod}
use Rattle.std.proofs.lemmas.Bool.{eqb-true, or_cases}
use Rattle.field.specs.Codes.{Laws, inverse}
use Rattle.field.specs.Modulo97.{gf97}
use Rattle.field.specs.Every.{every, every_at}
use Rattle.field.specs.GuardLemmas.{OnCodes, guarded_laws, both_codes}
use Rattle.field.specs.Inverse.{inverse_is, inverse_zero, inverse_outside}

-- a remainder may be taken before a product
mod-mul : (a b : ℕ) → (a % 97 * b) % 97 ≡ (a * b) % 97
mod-mul a b =
    sym (mul-add-mod_self_left 97 (a / 97 * b) (a % 97 * b))
    ∙ ap (λ x. x % 97) (sym whole)
  where
    split : a ≡ 97 * (a / 97) + a % 97
    split = omega arith

    whole : a * b ≡ 97 * (a / 97 * b) + a % 97 * b
    whole = ap (λ x. x * b) split ∙ omega arith

-- the remainder of the product by 97
abbrev pub product : ℕ → ℕ → ℕ
product a b = (a * b) % 97

product_comm : (a b : ℕ) → product a b ≡ product b a
product_comm a b = ap (λ x. x % 97) (mul_comm a b)

product_assoc : (a b c : ℕ) → product (product a b) c ≡ product a (product b c)
product_assoc a b c =
    mod-mul (a * b) c ∙ ap (λ x. x % 97) (mul_assoc a b c ∙ mul_comm a (b * c)) ∙ sym (mod-mul (b * c) a) ∙ product_comm (product b c) a

product_plus : (a b c : ℕ) → product a ((b + c) % 97) ≡ (product a b + product a c) % 97
product_plus a b c =
    product_comm a ((b + c) % 97)
    ∙ mod-mul (b + c) a
    ∙ ap (λ x. x % 97) (mul_comm (b + c) a ∙ mul-add a b c)
    ∙ add-mod (a * b) (a * c) 97

-- the power 95 of a number
abbrev pub power95 : ℕ → ℕ
power95 a =
    let fifth = product (product (product a a) (product a a)) a in
    let tenth = product fifth fifth in
    let twentieth = product tenth tenth in
    let fortieth = product twentieth twentieth in
    product (product (product fortieth fortieth) tenth) fifth

-- a number other than 0 times its power 95 is 1
pub power_inverse : (a : ℕ) → a < 97 → a ≢ 0 → product a (power95 a) ≡ 1
unfolding every
power_inverse a h n =
    ⊎_elim (λ z. absurd (n (eqb-true a 0 z))) (eqb-true (product a (power95 a)) 1)
    (or_cases (a == 0) (product a (power95 a) == 1) (every_at tested 97 a refl h))
  where
    tested : ℕ → Bool
    tested x = x == 0 || product x (power95 x) == 1

on_codes : OnCodes 2 97 (λ a b. (a + b) % 97) (λ a. (97 - a) % 97) product
on_codes = record {
  mark_byte = omega arith;
  size_least = omega arith;
  size_most = omega arith;
  add_code = λ a b ha hb. omega arith;
  neg_code = λ a ha. omega arith;
  mul_code = λ a b ha hb. omega arith;
  add_comm = λ a b ha hb. omega arith;
  mul_comm = λ a b ha hb. product_comm a b;
  add_assoc = λ a b c ha hb hc. omega arith;
  mul_assoc = λ a b c ha hb hc. product_assoc a b c;
  mul_add = λ a b c ha hb hc. product_plus a b c;
  add_zero = λ a ha. omega arith;
  mul_one = λ a ha. omega arith;
  add_neg = λ a ha. omega arith;
  mul_inverse = λ a ha na. (power95 a, omega arith, power_inverse a ha na);
}

pub gf97_laws : Laws gf97
gf97_laws = guarded_laws on_codes

-- the reciprocal, as the power 95 gives it, and where there is none
pub power_reciprocal : (a : ℕ) → a < 97 → a ≢ 0 → inverse gf97 a ≡ Some (power95 a)
power_reciprocal a h n =
    inverse_is gf97_laws a (power95 a) h (omega arith)
    (both_codes 97 product a (power95 a) h (omega arith) ∙ power_inverse a h n)

pub no_reciprocal : (a : ℕ) → (a ≡ 0) ⊎ (97 ≤ a) → inverse gf97 a ≡ None
no_reciprocal a = ⊎_elim (λ z. ap (inverse gf97) z ∙ inverse_zero gf97_laws) (inverse_outside gf97_laws a)
