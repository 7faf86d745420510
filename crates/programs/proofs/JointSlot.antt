-- Different cards of a deal go into an empty slot one after the other, in any order. Assumes nothing.
--   held    what the slot holds once it took the first of the cards that are chosen
use Rattle.std.proofs.Common.{◌≡◌, ℕ, zero, suc, ◌<◌, ◌≤◌, cond, List, ◌∷◌, ◌++◌, map, length, get_or, drop, is_some, Some, None, unwrap_or, sym, refl, ap, ◌∙◌, add-one, arith}
use Rattle.std.proofs.lemmas.List.{drop_more, get_or-set_other, length-set}
use Rattle.std.proofs.lemmas.List.Sums.{sum_by-set}
use Rattle.field.specs.Codes.{Operations}
use Rattle.sharing.specs.Scheme.{Plan}
use Rattle.plan_check.proofs.Faults.{some_none}
use Rattle.opening.specs.Answers.{Different}
use Rattle.lines.specs.Writing.{written}
use Rattle.slot.specs.Holdings.{Holding, count}
use Rattle.slot.specs.Inserts.{held_at, inserted, nothing}
use Rattle.slot.proofs.Coding.{placed_set}
use Rattle.slot.proofs.Fairness.{none_held}
use Rattle.programs.specs.Gathering.{Taken}
use Rattle.programs.specs.Texts.{text_of}
use Rattle.programs.proofs.JointCards.{Source, card_head, heading, line, numbers, passes}

abbrev pub held : {o : Operations} {p : Plan} → Source o p → List ℕ → ℕ → Holding
held c js zero = nothing
held c js (suc k) = inserted (held c js k) (line c (get_or js k 0))

module _ {o : Operations} {p : Plan} (c : Source o p) (js : List ℕ) where
  first-held : (k : ℕ) → unwrap_or (held c js k).first (heading c) ≡ heading c
  first-held zero = refl
  first-held (suc k) = first-held k

  pub first_is : (k : ℕ) → 0 < k → (held c js k).first ≡ Some (heading c)
  first_is zero h = absurd (omega arith)
  first_is (suc k) h = ap Some (first-held k)

  places : (k : ℕ) → length (held c js k).cards ≡ 8
  places zero = refl
  places (suc k) = length-set (held c js k).cards (get_or js k 0) (Some (numbers c (get_or js k 0))) ∙ places k

  -- what is held are cards of the deal
  pub own : (k i : ℕ) (x : List ℕ) → held_at (held c js k) i ≡ Some x → x ≡ numbers c i
  own zero = λ i x e. absurd (some_none x (sym e ∙ none_held i))
  own (suc k) =
      let j = get_or js k 0 in
      placed_set (λ i a. (x : List ℕ) → a ≡ Some x → x ≡ numbers c i) (held c js k).cards j (Some (numbers c j))
      (λ i x e. absurd (some_none x (sym e))) (λ x e. let is : numbers c j ≡ x = cc in sym is) (own k)

  module _ (below : (m : ℕ) → m < length js → get_or js m 0 < p.n) (different : Different js) where
    -- those that are still to come are not held
    free : (k m : ℕ) → k ≤ m → m < length js → held_at (held c js k) (get_or js m 0) ≡ None
    free zero m le lt = none_held (get_or js m 0)
    free (suc k) m le lt =
        get_or-set_other (held c js k).cards (get_or js k 0) (get_or js m 0) (Some (numbers c (get_or js k 0))) None (λ e. different k m le lt (sym e))
        ∙ free k m (omega arith) lt

    -- as many as were put in
    pub counted : (k : ℕ) → k ≤ length js → count (held c js k).cards ≡ k
    counted zero le = refl
    counted (suc k) le =
        let j = get_or js k 0 in
        omega (
          arith,
          sum_by-set (λ a. cond (is_some a) 1 0) (held c js k).cards j (Some (numbers c j)) None (omega (arith, below k le, c.sound.most, places k)),
          ap {B = ℕ} (λ a. cond (is_some a) 1 0) (free k k (omega arith) le),
          counted k (omega arith),
        )

    pub taken : (k : ℕ) → k ≤ length js → Taken o k (text_of (map (line c) js)) (held c js k) (text_of (map (line c) (drop k js)))
    taken zero le = (refl, refl)
    taken (suc k) le =
        let j = get_or js k 0 in
        let rest = text_of (map (line c) (drop (suc k) js)) in
        let is : text_of (map (line c) (drop k js)) ≡ written (line c j) ++ rest =
        ap (λ l. text_of (map (line c) l)) (drop_more js k 0 le ∙ ap (λ n. j ∷ drop n js) (add-one k)) in (
          held c js k,
          text_of (map (line c) (drop k js)),
          line c j,
          taken k (omega arith),
          card_head c j (below k le) (text_of (map (line c) (drop k js))) rest is,
          passes c j (below k le) (held c js k) (first-held k) (free k k (omega arith) le),
          refl,
        )
