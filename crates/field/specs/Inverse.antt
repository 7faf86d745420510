-- What the reciprocal is: a code whose product with the number is 1, the only one, there for each number but 0.
-- Assumes nothing.
use Rattle.std.specs.Prelude.{◌≡◌, ℕ, zero, suc, ◌<◌, ◌≤◌, Bool, true, false, cond, ◌≢◌, Some, None, Option, nat_eq}
use Rattle.std.proofs.Math.Path.{refl, ap}
use Rattle.std.proofs.Common.{sym, ◌∙◌}
use Rattle.std.proofs.Math.Logic.{⊎_elim}
use native.Mathlib.Omega.{arith}
use Rattle.std.proofs.lemmas.Bool.{eqb-true, eq-eqb, cases_eq, cases_lt, true≢false}
use Rattle.field.specs.Codes.{Operations, Laws, first, inverse}

module _ (test : ℕ → Bool) where
  -- the first that passes is below the bound and passes
  pub first_passes : (k x : ℕ) → first test k ≡ Some x → (x < k) × (test x ≡ true)
  unfolding first
  first_passes zero x e = let z : ◌≡◌ {A = ℕ} 0 1 = cc in absurd (omega arith)
  first_passes (suc k) x e = go (first test k) refl (first_passes k) e
    where
      here : (b : Bool) → test k ≡ b → cond b (Some k) None ≡ Some x → (x < suc k) × (test x ≡ true)
      here true t s = let same : k ≡ x = cc in (omega arith, ap test (sym same) ∙ t)
      here false t s = let z : ◌≡◌ {A = ℕ} 0 1 = cc in absurd (omega arith)

      go : (o : Option ℕ) → first test k ≡ o → ((y : ℕ) → first test k ≡ Some y → (y < k) × (test y ≡ true))
          → elim o [ Some y ↦ Some y | None ↦ cond (test k) (Some k) None ] ≡ Some x → (x < suc k) × (test x ≡ true)
      go (Some y) f ih s = let same : y ≡ x = cc in let h = ih x (f ∙ ap Some same) in (omega arith, h.1)
      go None f ih s = here (test k) refl s

  -- where none is found, none passes
  pub first_none : (k x : ℕ) → first test k ≡ None → x < k → test x ≡ false
  unfolding first
  first_none zero x e h = absurd (omega arith)
  first_none (suc k) x e h = go (first test k) refl (first_none k x) e
    where
      here : (b : Bool) → test k ≡ b → cond b (Some k) None ≡ None → (x < k → test x ≡ false) → test x ≡ false
      here true t s below = let z : ◌≡◌ {A = ℕ} 0 1 = cc in absurd (omega arith)
      here false t s below = ⊎_elim (λ same. ap test same ∙ t) (λ apart. below (omega arith)) (cases_eq x k)

      go : (o : Option ℕ) → first test k ≡ o → (first test k ≡ None → x < k → test x ≡ false)
          → ◌≡◌ {A = Option ℕ} (elim o [ Some y ↦ Some y | None ↦ cond (test k) (Some k) None ]) None → test x ≡ false
      go (Some y) f ih s = let z : ◌≡◌ {A = ℕ} 0 1 = cc in absurd (omega arith)
      go None f ih s = here (test k) refl s (ih f)

  first_some : (k x : ℕ) → x < k → test x ≡ true → (y : ℕ) × (first test k ≡ Some y)
  first_some k x h t = go (first test k) refl
    where
      go : (o : Option ℕ) → first test k ≡ o → (y : ℕ) × (first test k ≡ Some y)
      go (Some y) e = (y, e)
      go None e = absurd (true≢false (sym t ∙ first_none k x e h))

-- a reciprocal is a code, and its product with the number is 1
pub inverse_product : (o : Operations) (a x : ℕ) → inverse o a ≡ Some x → (x < o.size) × (o.mul a x ≡ 1)
unfolding inverse
inverse_product o a x e =
    let h = first_passes (λ y. nat_eq (o.mul a y) 1) o.size x e in (h.0, eqb-true (o.mul a x) 1 h.1)

module _ {o : Operations} (laws : Laws o) where
  -- a code other than 0 has a reciprocal
  pub inverse_found : (a : ℕ) → a < o.size → a ≢ 0 → (x : ℕ) × (inverse o a ≡ Some x) × (x < o.size) × (o.mul a x ≡ 1)
  unfolding inverse
  inverse_found a ha na =
      let w = laws.mul_inverse a ha na in
      let found = first_some (λ y. nat_eq (o.mul a y) 1) o.size w.0 w.1 (eq-eqb (o.mul a w.0) 1 w.2) in
      let h = inverse_product o a found.0 found.1 in
      (found.0, found.1, h.0, h.1)

  -- two codes whose product with a code is 1 are equal
  pub inverse_unique : (a x y : ℕ) → a < o.size → x < o.size → y < o.size → o.mul a x ≡ 1 → o.mul a y ≡ 1 → x ≡ y
  inverse_unique a x y ha hx hy ex ey =
      sym (laws.mul_one x hx)
      ∙ ap (o.mul x) (sym ey)
      ∙ sym (laws.mul_assoc x a y hx ha hy)
      ∙ ap (λ z. o.mul z y) (laws.mul_comm x a ∙ ex)
      ∙ laws.mul_comm 1 y
      ∙ laws.mul_one y hy

  -- the code whose product with a code is 1 is its reciprocal
  pub inverse_is : (a x : ℕ) → a < o.size → x < o.size → o.mul a x ≡ 1 → inverse o a ≡ Some x
  unfolding inverse
  inverse_is a x ha hx e =
      let found = first_some (λ y. nat_eq (o.mul a y) 1) o.size x hx (eq-eqb (o.mul a x) 1 e) in
      let h = inverse_product o a found.0 found.1 in
      found.1 ∙ ap Some (inverse_unique a found.0 x ha h.0 hx h.1 e)

  -- what is its own double is 0
  double_zero : (x : ℕ) → x < o.size → x ≡ o.add x x → x ≡ 0
  double_zero x h e =
      sym (laws.add_zero x h)
      ∙ ap (o.add x) (sym (laws.add_neg x h))
      ∙ sym (laws.add_assoc x x (o.neg x) h h (laws.neg_code x))
      ∙ ap (λ y. o.add y (o.neg x)) (sym e)
      ∙ laws.add_neg x h

  -- a product with 0 is 0
  pub mul_zero : (a : ℕ) → o.mul a 0 ≡ 0
  mul_zero a = ⊎_elim inside (laws.mul_outside a 0) (cases_lt a o.size)
    where
      zero_code : 0 < o.size
      zero_code = omega (arith, laws.size_least)

      inside : a < o.size → o.mul a 0 ≡ 0
      inside h =
          double_zero (o.mul a 0) (laws.mul_code a 0)
          (ap (o.mul a) (sym (laws.add_zero 0 zero_code)) ∙ laws.mul_add a 0 0 h zero_code zero_code)

  none_since : (a : ℕ) → ((x : ℕ) → o.mul a x ≡ 0) → inverse o a ≡ None
  none_since a h = go (inverse o a) refl
    where
      go : (r : Option ℕ) → inverse o a ≡ r → inverse o a ≡ None
      go None e = e
      go (Some x) e = let z : ◌≡◌ {A = ℕ} 0 1 = sym (h x) ∙ (inverse_product o a x e).1 in absurd (omega arith)

  -- 0 has no reciprocal, nor has what is no code
  pub inverse_zero : inverse o 0 ≡ None
  inverse_zero = none_since 0 (λ x. laws.mul_comm 0 x ∙ mul_zero x)

  pub inverse_outside : (a : ℕ) → o.size ≤ a → inverse o a ≡ None
  inverse_outside a h = none_since a (λ x. laws.mul_outside a x h)
