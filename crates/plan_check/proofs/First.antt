-- The first number that passes a test, from what a search meets on its way. Assumes nothing.
use Rattle.std.proofs.Common.{◌≡◌, ℕ, zero, suc, ◌+◌, ◌-◌, ◌<◌, ◌≤◌, Bool, true, false, ◌&&◌, leb, List, length, get_or, drop, Some, None, Option, sym, refl, ap, ◌∙◌, ⊎_elim, arith}
use Rattle.std.specs.List.{position, position_or_len}
use Rattle.std.specs.Option.{option_map}
use Rattle.std.proofs.lemmas.Bool.{cases_eq, cases_lt, lt-ltb, le-ltb, lt-leb, le-leb, and_from, true≢false}
use Rattle.std.proofs.lemmas.List.{length-drop, get_or-drop}
use Rattle.std.proofs.lemmas.List.Quantifiers.{position-Some}
use Rattle.std.proofs.lemmas.List.Sums.{fails_before_first, passes_at_first}
use Rattle.field.specs.Codes.{first}
use Rattle.field.specs.Inverse.{first_passes, first_none}

module _ (test : ℕ → Bool) where
  -- none passes, so none is found
  pub first_nothing : (k : ℕ) → ((y : ℕ) → y < k → test y ≡ false) → first test k ≡ None
  first_nothing k fails = go (first test k) refl
    where
      go : (o : Option ℕ) → first test k ≡ o → first test k ≡ None
      go None e = e
      go (Some x) e =
          let found = first_passes test k x e in absurd (true≢false (sym found.1 ∙ fails x found.0))

  -- x passes and none below it does, so x is found
  pub first_found : (k x : ℕ) → x < k → test x ≡ true → ((y : ℕ) → y < x → test y ≡ false) → first test k ≡ Some x
  unfolding first
  first_found zero x h passes fails = absurd (omega arith)
  first_found (suc k) x h passes fails =
      ⊎_elim
      (λ same. rw (first_nothing k (λ y l. fails y (omega arith)), ← same, passes) (ap Some refl))
      (λ apart. rw (first_found k x (omega arith) passes fails) refl)
      (cases_eq x k)

module _ (p : ℕ → Bool) (xs : List ℕ) where
  -- the library's search for the first element that passes comes to the same
  pub first_position : position p xs ≡ first (λ i. p (get_or xs i 0)) (length xs)
  first_position = ⊎_elim some none (cases_lt (position_or_len p xs) (length xs))
    where
      some : position_or_len p xs < length xs → position p xs ≡ first (λ i. p (get_or xs i 0)) (length xs)
      some h =
          rw (lt-ltb (position_or_len p xs) (length xs) h)
          (sym
          (first_found (λ i. p (get_or xs i 0)) (length xs) (position_or_len p xs) h (passes_at_first p xs 0 h)
          (λ y l. fails_before_first p xs y 0 l)))

      none : length xs ≤ position_or_len p xs → position p xs ≡ first (λ i. p (get_or xs i 0)) (length xs)
      none h =
          rw (le-ltb (position_or_len p xs) (length xs) h)
          (sym (first_nothing (λ i. p (get_or xs i 0)) (length xs) (λ y l. fails_before_first p xs y 0 (omega arith))))

module _ (p : ℕ → Bool) (xs : List ℕ) (from : ℕ) where
  abbrev passes_from : ℕ → Bool
  passes_from i = leb from i && p (get_or xs i 0)

  before : (y : ℕ) → y < from → passes_from y ≡ false
  before y h = rw (lt-leb from y h) refl

  after : (y : ℕ) → from ≤ y → p (get_or (drop from xs) (y - from) 0) ≡ false → passes_from y ≡ false
  after y h fails =
      let place : from + (y - from) ≡ y = omega arith in
      rw (le-leb from y h)
      (ap (λ k. p (get_or xs k 0)) (sym place) ∙ ap p (sym (get_or-drop from xs (y - from) 0)) ∙ fails)

  -- and its search from an index on finds the first from there
  pub first_position_from : option_map (λ i. from + i) (position p (drop from xs)) ≡ first passes_from (length xs)
  first_position_from = go (position p (drop from xs)) refl
    where
      each : (top : ℕ) → ((y : ℕ) → from ≤ y → y < top → p (get_or (drop from xs) (y - from) 0) ≡ false)
          → (y : ℕ) → y < top → passes_from y ≡ false
      each top fails y l = ⊎_elim (λ h. before y h) (λ h. after y h (fails y h l)) (cases_lt y from)

      go : (r : Option ℕ) → position p (drop from xs) ≡ r → option_map (λ i. from + i) r ≡ first passes_from (length xs)
      go None e =
          let none = sym (first_position p (drop from xs)) ∙ e in
          sym
          (first_nothing passes_from (length xs)
          (each (length xs)
          (λ y h l.
          first_none (λ i. p (get_or (drop from xs) i 0)) (length (drop from xs)) (y - from) none
          (omega (arith, length-drop from xs)))))
      go (Some i) e =
          let found = position-Some p (drop from xs) i 0 e in
          sym
          (first_found passes_from (length xs) (from + i) (omega (arith, found.0, length-drop from xs))
          (and_from (leb from (from + i)) (p (get_or xs (from + i) 0)) (le-leb from (from + i) (omega arith))
          (ap p (sym (get_or-drop from xs i 0)) ∙ found.1))
          (each (from + i) (λ y h l. found.2 (y - from) (omega arith))))
