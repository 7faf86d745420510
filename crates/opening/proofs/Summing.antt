-- The words of the rows that are solved, and the sum of what they add to the key, row by row. Assumes nothing.
use Rattle.std.proofs.Common.{◌≡◌, ℕ, ◌+◌, ◌*◌, ◌/◌, ◌%◌, ◌<◌, cond, eqb, ◌≢◌, List, get_or, sym, refl, ap, ◌∙◌, subst, ap₂, ⊎_elim, arith}
use Rattle.std.proofs.lemmas.Bool.{cases_eq, eq-eqb, ne_eqb, cond-true, cond-false}
use Rattle.field.specs.Codes.{Operations, sum}
use Rattle.linear.specs.Pivots.{entry}
use Rattle.linear.specs.Systems.{Solves, Regular}
use Rattle.linear.proofs.Coded.{sum_none, sum_more, sum_cong}
use Rattle.sharing.specs.Systems.{opening_matrix}
use Rattle.opening.specs.Quorums.{Gathered, Solved, Summed, signed}
use Rattle.opening.specs.Words.{card_number}

-- vectors that agree solve the same system
pub solves_same : (o : Operations) (n : ℕ) (a : ℕ → ℕ → ℕ) (b x y : ℕ → ℕ) → ((c : ℕ) → c < n → x c ≡ y c) → Solves o n a b x
    → Solves o n a b y
solves_same o n a b x y same s =
    record {
      codes = λ c l. subst (λ z. z < o.size) (same c l) (s.codes c l);
      rows = λ r l. sum_cong o n _ _ (λ c h. ap (o.mul (a r c)) (sym (same c h))) ∙ s.rows r l;
    }

module _ (o : Operations) (q : Gathered) where
  pub summed_none : (sums : List ℕ) → ((y : ℕ) → get_or sums y 0 ≡ 0) → Summed o q 0 sums
  summed_none sums zeros =
      record {
        words = λ i e c. 0;
        regular = λ i l. absurd (omega arith);
        solved = λ i e l. absurd (omega arith);
        added = λ y l. zeros y ∙ sym (sum_none o _);
      }

  -- the words so far, and those of row i
  next_words : (i : ℕ) (matrix : List ℕ) → ((i e c : ℕ) → ℕ) → (k e c : ℕ) → ℕ
  next_words i matrix x k e c = cond (eqb k i) (entry (q.plan.t + q.lanes) matrix c (q.plan.t + e)) (x k e c)

  next_same : (i : ℕ) (matrix : List ℕ) (x : (i e c : ℕ) → ℕ) (k e c : ℕ) → k ≡ i
      → next_words i matrix x k e c ≡ entry (q.plan.t + q.lanes) matrix c (q.plan.t + e)
  unfolding next_words
  next_same i matrix x k e c is = cond-true (eqb k i) _ _ (eq-eqb k i is)

  next_other : (i : ℕ) (matrix : List ℕ) (x : (i e c : ℕ) → ℕ) (k e c : ℕ) → k ≢ i → next_words i matrix x k e c ≡ x k e c
  unfolding next_words
  next_other i matrix x k e c apart = cond-false (eqb k i) _ _ (ne_eqb k i apart)

  -- one row more
  pub summed_more : (i : ℕ) (matrix sums after : List ℕ) → Summed o q i sums → Solved o q i matrix
      → ((y : ℕ) → y < q.plan.t * q.lanes
      → get_or after y 0
      ≡ o.add (get_or sums y 0) (signed o i (entry (q.plan.t + q.lanes) matrix (y / q.lanes) (q.plan.t + y % q.lanes))))
      → Summed o q (i + 1) after
  summed_more i matrix sums after before row add =
      record { words = x; regular = regular; solved = solved; added = added }
    where
      x : (i e c : ℕ) → ℕ
      x = next_words i matrix before.words

      A : ℕ → ℕ → ℕ → ℕ
      A = opening_matrix q.plan q.numbers

      right : (k e m : ℕ) → ℕ
      right k e m = card_number q.plan.t q.lanes q.«data» m k e

      regular : (k : ℕ) → k < i + 1 → Regular o q.plan.t (A k)
      regular k l =
          ⊎_elim (λ same. subst (λ k. Regular o q.plan.t (A k)) (sym same) row.regular)
          (λ apart. before.regular k (omega arith)) (cases_eq k i)

      solved : (k e : ℕ) → k < i + 1 → e < q.lanes → Solves o q.plan.t (A k) (right k e) (x k e)
      solved k e l he =
          ⊎_elim
          (λ same.
          solves_same o q.plan.t (A k) (right k e) (λ c. entry (q.plan.t + q.lanes) matrix c (q.plan.t + e)) (x k e)
          (λ c h. sym (next_same i matrix before.words k e c same))
          (subst (λ k. Solves o q.plan.t (A k) (right k e) (λ c. entry (q.plan.t + q.lanes) matrix c (q.plan.t + e))) (sym same)
          (row.words e he)))
          (λ apart.
          solves_same o q.plan.t (A k) (right k e) (before.words k e) (x k e)
          (λ c h. sym (next_other i matrix before.words k e c apart)) (before.solved k e (omega arith) he))
          (cases_eq k i)

      added : (y : ℕ) → y < q.plan.t * q.lanes → get_or after y 0 ≡ sum o (i + 1) (λ k. signed o k (x k (y % q.lanes) (y / q.lanes)))
      added y l =
          add y l
          ∙ ap₂ o.add
          (before.added y l
          ∙ sum_cong o i _ _
          (λ k h.
          ap (signed o k)
          (sym (next_other i matrix before.words k (y % q.lanes) (y / q.lanes) (λ e. omega arith)))))
          (ap (signed o i) (sym (next_same i matrix before.words i (y % q.lanes) (y / q.lanes) refl)))
          ∙ sym (sum_more o i (λ k. signed o k (x k (y % q.lanes) (y / q.lanes))))
