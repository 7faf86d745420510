-- A loop over the rows that clears one column, and a whole pivot's step. Assumes nothing.
--   ClearedTo     the rows before i are cleared in column k, the others are as they were
use Rattle.std.proofs.Common.{◌≡◌, ℕ, ◌<◌, ◌≤◌, cond, eqb, ltb, ◌≢◌, List, sym, refl, ap, ◌∙◌, ap₂, ⊎_elim, arith}
use Rattle.std.proofs.lemmas.Bool.{eq-eqb, ne_eqb, cases_eq, cases_lt, cond-true, cond-false}
use Rattle.field.specs.Codes.{Operations}
use Rattle.linear.specs.Pivots.{entry, swapped, Swapped, Scaled, cleared, stepped}
use Rattle.linear.proofs.Swaps.{swapped-first}
use Rattle.linear.proofs.Entries.{past-before, past_from}

-- the rows before i are cleared in column k, the others are as they were
abbrev pub ClearedTo : Operations → ℕ → ℕ → List ℕ → ℕ → List ℕ → Type 0
ClearedTo o w k s i t = (r x : ℕ) → x < w → entry w t r x ≡ cond (ltb r i) (cleared o w k s r x) (entry w s r x)

-- rows exchanged, the pivot's row scaled, its column cleared: the numbers after a pivot's step
module _ (o : Operations) (w k p d : ℕ) (s t u : List ℕ) (swap : Swapped w k p s t) (scale : Scaled o w k d t u) where
  swapped-entry : (r x : ℕ) → x < w → k ≤ x → entry w t r x ≡ entry w s (swapped k p r) x
  swapped-entry r x h l = swap r x h ∙ past_from k x (entry w s r x) (entry w s (swapped k p r) x) l

  -- the pivot's row
  pivot_row : (r x : ℕ) → x < w → k ≤ x → r ≡ k → entry w u r x ≡ o.mul d (entry w s p x)
  pivot_row r x h l e =
      scale r x h
      ∙ past_from k x (entry w t r x) (cond (eqb r k) (o.mul d (entry w t r x)) (entry w t r x)) l
      ∙ cond-true (eqb r k) (o.mul d (entry w t r x)) (entry w t r x) (eq-eqb r k e)
      ∙ ap (o.mul d) (swapped-entry r x h l ∙ ap (λ q. entry w s q x) (swapped-first k p r e))

  -- another row
  other_row : (r x : ℕ) → x < w → k ≤ x → r ≢ k → entry w u r x ≡ entry w s (swapped k p r) x
  other_row r x h l a =
      scale r x h
      ∙ past_from k x (entry w t r x) (cond (eqb r k) (o.mul d (entry w t r x)) (entry w t r x)) l
      ∙ cond-false (eqb r k) (o.mul d (entry w t r x)) (entry w t r x) (ne_eqb r k a)
      ∙ swapped-entry r x h l

  -- a column that is done
  done-column : (r x : ℕ) → x < w → x < k → entry w u r x ≡ entry w s r x
  done-column r x h l = scale r x h ∙ past-before k x (entry w t r x) _ l ∙ swap r x h ∙ past-before k x (entry w s r x) _ l

  pub stepped_entry : (n : ℕ) (v : List ℕ) → k < w
      → ((r x : ℕ) → r < n → x < w → entry w v r x ≡ cleared o w k u r x)
      → (r x : ℕ) → r < n → x < w → entry w v r x ≡ stepped o w k p d s r x
  stepped_entry n v hk clear r x hr h = clear r x hr h ∙ ⊎_elim before from (cases_lt x k)
    where
      Goal : Type 0
      Goal = cleared o w k u r x ≡ stepped o w k p d s r x

      before : x < k → Goal
      before l = past-before k x (entry w u r x) _ l ∙ done-column r x h l ∙ sym (past-before k x (entry w s r x) _ l)

      from : k ≤ x → Goal
      from l =
          past_from k x (entry w u r x) _ l
          ∙ ⊎_elim
          (λ e.
          cond-true (eqb r k) (entry w u r x) _ (eq-eqb r k e)
          ∙ pivot_row r x h l e
          ∙ sym (cond-true (eqb r k) (o.mul d (entry w s p x)) _ (eq-eqb r k e)))
          (λ a.
          cond-false (eqb r k) (entry w u r x) _ (ne_eqb r k a)
          ∙ ap₂ o.add (other_row r x h l a)
          (ap₂ o.mul (ap o.neg (other_row r k hk (omega arith) a)) (pivot_row k x h l refl))
          ∙ sym (cond-false (eqb r k) (o.mul d (entry w s p x)) _ (ne_eqb r k a)))
          (cases_eq r k)
          ∙ sym (past_from k x (entry w s r x) _ l)
