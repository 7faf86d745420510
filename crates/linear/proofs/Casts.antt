-- Rows that are shorter than the word, unit rows and given rows. Assumes nothing.
use Rattle.std.proofs.Common.{◌≡◌, ℕ, ◌+◌, ◌-◌, ◌*◌, ◌<◌, ◌≤◌, min, cond, eqb, ltb, List, length, get_or, drop, sym, refl, ap, ◌∙◌, ⊎_elim, arith}
use Rattle.std.proofs.lemmas.List.{get_or_past, get_or-drop}
use Rattle.std.proofs.lemmas.Bool.{lt-ltb, le-ltb, eq-eqb, ne_eqb, cases_lt, cond-true, cond-false}
use Rattle.field.specs.Codes.{Operations, Laws}
use Rattle.linear.specs.Casting.{row, cast}
use Rattle.linear.specs.Systems.{numbers, dot}
use Rattle.linear.proofs.Coded.{sum_cong, products_past, products_pick}

module _ {o : Operations} (laws : Laws o) where
  -- the numbers that both have are enough
  dot_short : (r word : List ℕ) (k : ℕ) → k ≡ min (length r) (length word)
      → dot o k (numbers r) (numbers word) ≡ dot o (length word) (numbers r) (numbers word)
  dot_short r word k e =
      ⊎_elim
      (λ l.
      let all : k + (length word - k) ≡ length word = omega arith in
      sym (products_past laws k (length word - k) (numbers r) (numbers word) (λ i h. get_or_past r i 0 (omega arith)))
      ∙ ap (λ n. dot o n (numbers r) (numbers word)) all)
      (λ l. let all : k ≡ length word = omega arith in ap (λ n. dot o n (numbers r) (numbers word)) all)
      (cases_lt (length r) (length word))

  -- a unit row
  pub cast_unit : (t : ℕ) (given : List ℕ) (word : ℕ → ℕ) (c : ℕ) → c < t → o.mul 1 (word c) ≡ cast o t given word c
  cast_unit t given word c h =
      sym
      (products_pick laws t c (row t given c) word h
      (unit c ∙ cond-true (eqb c c) 1 0 (eq-eqb c c refl))
      (λ i l apart. unit i ∙ cond-false (eqb c i) 1 0 (ne_eqb c i (λ e. apart (sym e)))))
    where
      unit : (p : ℕ) → row t given c p ≡ cond (eqb c p) 1 0
      unit p = cond-true (ltb c t) (cond (eqb c p) 1 0) (get_or given ((c - t) * t + p) 0) (lt-ltb c t h)

  given_row : (t : ℕ) (given : List ℕ) (c p : ℕ) → t ≤ c → row t given c p ≡ get_or given ((c - t) * t + p) 0
  given_row t given c p h = cond-false (ltb c t) (cond (eqb c p) 1 0) (get_or given ((c - t) * t + p) 0) (le-ltb c t h)

  -- a given row that was cut out of the list, or what is past the list's end
  pub cast_cut : (s given word : List ℕ) (c from : ℕ) → length word ≤ c → from ≡ min ((c - length word) * length word) (length given)
      → s ≡ drop from given → dot o (min (length s) (length word)) (numbers s) (numbers word) ≡ cast o (length word) given (numbers word) c
  cast_cut s given word c from h e cut =
      dot_short s word (min (length s) (length word)) refl
      ∙ sum_cong o (length word) (λ p. o.mul (numbers s p) (numbers word p)) (λ p. o.mul (row (length word) given c p) (numbers word p))
      (λ p l.
      ap (λ x. o.mul x (numbers word p))
      (ap (λ x. numbers x p) cut ∙ get_or-drop from given p 0 ∙ reached p ∙ sym (given_row (length word) given c p h)))
    where
      reached : (p : ℕ) → get_or given (from + p) 0 ≡ get_or given ((c - length word) * length word + p) 0
      reached p =
          ⊎_elim
          (λ l. let all : from ≡ (c - length word) * length word = omega arith in ap (λ i. get_or given (i + p) 0) all)
          (λ l. get_or_past given (from + p) 0 (omega arith) ∙ sym (get_or_past given ((c - length word) * length word + p) 0 (omega arith)))
          (cases_lt ((c - length word) * length word) (length given))
