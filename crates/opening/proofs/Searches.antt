-- What the library's searches of a list find, as the first place that passes. Assumes nothing.
use Rattle.std.proofs.Common.{◌≡◌, ℕ, zero, suc, ◌+◌, ◌<◌, ◌≤◌, Bool, true, false, cond, ◌||◌, List, length, eqb, take, get_or, is_some, Some, None, Option, sym, refl, ap, ◌∙◌, ⊎_elim, arith}
use Rattle.std.specs.List.{list_any, enumerate_from, find, position_or_len}
use Rattle.std.specs.Option.{option_map}
use Rattle.std.proofs.lemmas.Bool.{cases_lt}
use Rattle.std.proofs.lemmas.Option.{slice_get-get_or, slice_get_past}
use Rattle.std.proofs.lemmas.List.Folds.{find_at, list_any_more}
use Rattle.std.proofs.lemmas.List.FromFn.{length-enumerate_from, get_or-enumerate_from}
use Rattle.std.proofs.lemmas.List.Sums.{fails_before_first, passes_at_first}
use Rattle.field.specs.Codes.{first}
use Rattle.plan_check.proofs.First.{first_nothing, first_found}
use Rattle.opening.specs.Tables.{stands, first_twice}

module _ (p : ℕ → Bool) (xs : List ℕ) where
  -- the first number that passes stands at the first place that does
  pub find_first : find p xs ≡ option_map (λ i. get_or xs i 0) (first (λ i. p (get_or xs i 0)) (length xs))
  find_first =
      find_at p xs
      ∙ ⊎_elim
      (λ l.
      slice_get-get_or xs (position_or_len p xs) 0 l
      ∙ ap (option_map (λ i. get_or xs i 0))
      (sym
      (first_found (λ i. p (get_or xs i 0)) (length xs) (position_or_len p xs) l (passes_at_first p xs 0 l)
      (λ k h. fails_before_first p xs k 0 h))))
      (λ past.
      slice_get_past xs (position_or_len p xs) past
      ∙ ap (option_map (λ i. get_or xs i 0))
      (sym (first_nothing (λ i. p (get_or xs i 0)) (length xs) (λ k h. fails_before_first p xs k 0 (omega arith)))))
      (cases_lt (position_or_len p xs) (length xs))

  -- one of the first numbers passes if there is a first of their places that does
  pub any_first : (k : ℕ) → k ≤ length xs → list_any p (take k xs) ≡ is_some (first (λ i. p (get_or xs i 0)) k)
  unfolding first
  any_first zero l = refl
  any_first (suc k) l =
      ap (λ n. list_any p (take n xs)) {x = suc k} {y = k + 1} (omega arith)
      ∙ list_any_more p xs k 0 (omega arith)
      ∙ ap (λ (b : Bool). b || p (get_or xs k 0)) (any_first k (omega arith))
      ∙ go (first (λ i. p (get_or xs i 0)) k) (p (get_or xs k 0))
    where
      go : (o : Option ℕ) (b : Bool) → (is_some o || b) ≡ is_some (elim o [ Some x ↦ Some x | None ↦ cond b (Some k) None ])
      go (Some x) b = refl
      go None true = refl
      go None false = refl

module _ (cards : List ℕ) where
  -- a place and its number pass where the number stands before that place
  earlier : ℕ × ℕ → Bool
  earlier e = list_any (λ y. eqb y e.1) (take e.0 cards)

  earlier_stands : (i : ℕ) → i < length cards
      → earlier (get_or (enumerate_from 0 cards) i (0, 0)) ≡ stands cards i (get_or cards i 0)
  unfolding earlier
  earlier_stands i l =
      ap earlier (get_or-enumerate_from 0 cards i (0, 0) l ∙ ap (λ (k : ℕ). (k, get_or cards i 0)) (omega arith))
      ∙ any_first (λ y. eqb y (get_or cards i 0)) cards i (omega arith)

  -- the first place and number of them are those of the first number that stood before
  pub find_twice : find (λ (e : ℕ × ℕ). list_any (λ y. eqb y e.1) (take e.0 cards)) (enumerate_from 0 cards)
      ≡ option_map (λ i. (i, get_or cards i 0)) (first_twice cards)
  unfolding earlier
  find_twice =
      find_at earlier es
      ∙ ⊎_elim
      (λ l.
      let inside : k < length cards = omega (arith, size) in
      slice_get-get_or es k (0, 0) l
      ∙ ap Some (get_or-enumerate_from 0 cards k (0, 0) inside ∙ ap (λ (i : ℕ). (i, get_or cards k 0)) (omega arith))
      ∙ ap (option_map (λ i. (i, get_or cards i 0)))
      (sym
      (first_found (λ i. stands cards i (get_or cards i 0)) (length cards) k inside
      (sym (earlier_stands k inside) ∙ passes_at_first earlier es (0, 0) l)
      (λ i h. sym (earlier_stands i (omega arith)) ∙ fails_before_first earlier es i (0, 0) h))))
      (λ past.
      slice_get_past es k past
      ∙ ap (option_map (λ i. (i, get_or cards i 0)))
      (sym
      (first_nothing (λ i. stands cards i (get_or cards i 0)) (length cards)
      (λ i h. sym (earlier_stands i h) ∙ fails_before_first earlier es i (0, 0) (omega (arith, size))))))
      (cases_lt k (length es))
    where
      es : List (ℕ × ℕ)
      es = enumerate_from 0 cards

      k : ℕ
      k = position_or_len earlier es

      size : length es ≡ length cards
      size = length-enumerate_from 0 cards
