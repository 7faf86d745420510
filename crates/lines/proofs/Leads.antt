-- How far the front of a list passes a test. Assumes nothing.
use Rattle.std.proofs.Common.{◌≡◌, ℕ, zero, suc, ◌+◌, ◌≤◌, Bool, true, false, cond, List, [], ◌∷◌, ◌++◌, length, take, refl, ap, ◌∙◌, arith}
use Rattle.std.specs.List.{prefix_len, AllByRecursion}

module _ (p : ℕ → Bool) where
  -- past a front that passes the count goes on
  pub leading_append : (xs ys : List ℕ) → AllByRecursion (λ x. p x ≡ true) xs → prefix_len p (xs ++ ys) ≡ length xs + prefix_len p ys
  leading_append [] ys u = omega arith
  leading_append (x ∷ xs) ys u =
      ap (λ b. cond b (1 + prefix_len p (xs ++ ys)) 0) u.0 ∙ omega (arith, leading_append xs ys u.1)

  pub leading_all : (xs : List ℕ) → AllByRecursion (λ x. p x ≡ true) xs → prefix_len p xs ≡ length xs
  leading_all [] u = refl
  leading_all (x ∷ xs) u = ap (λ b. cond b (1 + prefix_len p xs) 0) u.0 ∙ omega (arith, leading_all xs u.1)

  -- what is counted passes
  pub all_leading : (k : ℕ) (xs : List ℕ) → k ≤ prefix_len p xs → AllByRecursion (λ x. p x ≡ true) (take k xs)
  all_leading zero xs h = tt
  all_leading (suc k) [] h = tt
  all_leading (suc k) (x ∷ xs) h = go (p x) refl (all_leading k xs)
    where
      go : (b : Bool) → p x ≡ b → (k ≤ prefix_len p xs → AllByRecursion (λ y. p y ≡ true) (take k xs)) → (p x ≡ true) × AllByRecursion (λ y. p y ≡ true) (take k xs)
      go true e ih = (e, ih (omega (arith, ap (λ b. cond b (1 + prefix_len p xs) 0) e)))
      go false e ih = absurd (omega (arith, ap (λ b. cond b (1 + prefix_len p xs) 0) e))
