-- A matrix with a left inverse sends no vector but zero to zero, and one with a null vector does. Assumes nothing.
use Rattle.std.proofs.Common.{◌≡◌, ℕ, ◌<◌, Bool, true, false, cond, eqb, sym, ap, ◌∙◌}
use Rattle.field.specs.Codes.{Operations, Laws, sum}
use Rattle.linear.proofs.Scalars.{Scalars, mul_nil}
use Rattle.linear.proofs.Sums.{total, unit, total_cong, total_nil, total_exchange, total_mul, total_mul_right, total_pick}
use Rattle.linear.proofs.Coded.{Code, coded, code, code_zero, code_one, code_products}
use Rattle.sharing.specs.Systems.{OnlyZero}
use Rattle.sharing.proofs.Nulls.{zero_of_nil}

module _ {o : Operations} (laws : Laws o) (n : ℕ) (a b : ℕ → ℕ → ℕ) where
  -- b times a is the unit matrix
  abbrev pub LeftInverse : Type 0
  LeftInverse = (r c : ℕ) → r < n → c < n → sum o n (λ k. o.mul (b r k) (a k c)) ≡ cond (eqb c r) 1 0

  code-unit : (e : Bool) → code laws (cond e 1 0) ≡ cond e (coded laws).one (coded laws).nil
  code-unit true = code_one laws
  code-unit false = code_zero laws

  pub only_zero_of_inverse : LeftInverse → OnlyZero o n a
  only_zero_of_inverse left x null c l = zero_of_nil laws (x c) (null.codes c l) whole
    where
      F : Scalars (Code o)
      F = coded laws

      X : ℕ → Code o
      X j = code laws (x j)

      A : ℕ → ℕ → Code o
      A k j = code laws (a k j)

      B : ℕ → Code o
      B k = code laws (b c k)

      units : (j : ℕ) → j < n → unit F j c ≡ total F n (λ k. F.mul (B k) (A k j))
      units j h = sym (code-unit (eqb j c)) ∙ ap (code laws) (sym (left c j l h)) ∙ code_products laws n (b c) (λ k. a k j)

      row : (k : ℕ) → k < n → total F n (λ j. F.mul (A k j) (X j)) ≡ F.nil
      row k h = sym (code_products laws n (a k) x) ∙ ap (code laws) (null.rows k h) ∙ code_zero laws

      whole : X c ≡ F.nil
      whole =
          sym (total_pick F n c X l)
          ∙ total_cong F n _ _ (λ j h. ap (λ u. F.mul u (X j)) (units j h) ∙ sym (total_mul_right F n (λ k. F.mul (B k) (A k j)) (X j)))
          ∙ total_exchange F n n (λ j k. F.mul (F.mul (B k) (A k j)) (X j))
          ∙ total_nil F n _
          (λ k h. total_cong F n _ _ (λ j m. F.mul_assoc (B k) (A k j) (X j))
          ∙ total_mul F n (B k) (λ j. F.mul (A k j) (X j))
          ∙ ap (F.mul (B k)) (row k h)
          ∙ mul_nil F (B k))
