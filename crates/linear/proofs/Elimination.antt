-- Elimination over any field, as faithful maps on columns. Assumes nothing.
--   Reached         a faithful map under which the first k columns of a matrix are unit columns
--   reached_solves, reached_only
--                   all columns done: every right side has exactly one solution
--   reached_null    no pivot in column k: a vector with 1 at k and 0 after it is sent to 0
--   reached_more    a pivot's step: one column more
--   alternative     all columns done or a vector that is sent to 0, for every square matrix
use Rattle.std.proofs.Common.{◌≡◌, ℕ, zero, suc, ◌+◌, ◌-◌, ◌<◌, ◌≤◌, cond, ltb, ◌≢◌, ◌⊎◌, sym, refl, ap, ◌∙◌, ap₂, inl, inr, ⊎_elim, arith}
use Rattle.std.proofs.lemmas.Bool.{lt-ltb, le-ltb, cases_eq, cases_lt, cond-true, cond-false}
use Rattle.linear.specs.Pivots.{swapped}
use Rattle.linear.proofs.Scalars.{Scalars, neg_add, mul_nil, nil_mul, one_mul}
use Rattle.linear.proofs.Sums.{total, unit, total_more, total_cong, total_nil, total_split, total_one, unit_same, unit_other, total_pick}
use Rattle.linear.proofs.Faithful.{Faithful, faithful_id, faithful_after, faithful_nil, faithful_times}
use Rattle.linear.proofs.Pivoting.{pivoted, pivoted_faithful, pivoted_keeps, pivoted_clears}

module _ {K : Type 0} (F : Scalars K) where
  -- a faithful map under which the first k columns of the matrix a are unit columns
  pub record Reached (n : ℕ) (a : ℕ → ℕ → K) (k : ℕ) (T : (ℕ → K) → ℕ → K) : Type 0 where
    pub faithful : Faithful F n T
    pub units : (c : ℕ) → c < k → (r : ℕ) → r < n → T (λ i. a i c) r ≡ unit F c r

  pub reached_none : (n : ℕ) (a : ℕ → ℕ → K) → Reached n a 0 (λ u. u)
  reached_none n a = record { faithful = faithful_id F n; units = λ c h. absurd (omega arith) }

  module _ (n : ℕ) (a : ℕ → ℕ → K) (T : (ℕ → K) → ℕ → K) where
    -- all columns done: what a vector is sent to is mapped back to the vector
    reached_back : Reached n a n T → (x : ℕ → K) (r : ℕ) → r < n → T (λ i. total F n (λ c. F.mul (a i c) (x c))) r ≡ x r
    reached_back t x r l =
        faithful_times F n T t.faithful n a x r l
        ∙ total_cong F n (λ c. F.mul (T (λ i. a i c) r) (x c)) (λ c. F.mul (unit F c r) (x c))
        (λ c h. ap (λ y. F.mul y (x c)) (t.units c h r l))
        ∙ total_pick F n r x l

    -- the mapped right side is a solution
    pub reached_solves : Reached n a n T → (b : ℕ → K) (r : ℕ) → r < n → total F n (λ c. F.mul (a r c) (T b c)) ≡ b r
    reached_solves t b = t.faithful.apart (λ i. total F n (λ c. F.mul (a i c) (T b c))) b (reached_back t (T b))

    -- and the only one
    pub reached_only : Reached n a n T → (b x : ℕ → K) → ((r : ℕ) → r < n → total F n (λ c. F.mul (a r c) (x c)) ≡ b r)
        → (c : ℕ) → c < n → x c ≡ T b c
    reached_only t b x h c l =
        sym (reached_back t x c l) ∙ t.faithful.same (λ i. total F n (λ c. F.mul (a i c) (x c))) b h c l

    -- of the vectors that are 0 from k on, only zero is sent to 0
    pub reached_first : (k : ℕ) → Reached n a k T → (x : ℕ → K)
        → ((r : ℕ) → r < n → total F n (λ c. F.mul (a r c) (x c)) ≡ F.nil) → ((c : ℕ) → k ≤ c → c < n → x c ≡ F.nil)
        → (c : ℕ) → c < n → x c ≡ F.nil
    reached_first k t x h late c l = ⊎_elim early (λ g. late c g l) (cases_lt c k)
      where
        term : ℕ → K
        term j = F.mul (T (λ i. a i j) c) (x j)

        others : (j : ℕ) → j < n → j ≢ c → term j ≡ F.nil
        others j b apart =
            ⊎_elim
            (λ g. ap (λ y. F.mul y (x j)) (t.units j g c l ∙ unit_other F j c apart) ∙ nil_mul F (x j))
            (λ g. ap (F.mul (T (λ i. a i j) c)) (late j g b) ∙ mul_nil F (T (λ i. a i j) c))
            (cases_lt j k)

        early : c < k → x c ≡ F.nil
        early g =
            sym (ap (λ y. F.mul y (x c)) (t.units c g c l ∙ unit_same F c) ∙ one_mul F (x c))
            ∙ sym (total_one F n c term l others)
            ∙ sym (faithful_times F n T t.faithful n a x c l)
            ∙ t.faithful.same (λ i. total F n (λ j. F.mul (a i j) (x j))) (λ i. F.nil) h c l
            ∙ faithful_nil F n T t.faithful c l

    -- the vector that is sent to 0 where column k has no pivot: 1 at k, 0 after it
    abbrev pub null : ℕ → ℕ → K
    null k c = cond (ltb c k) (F.neg (T (λ i. a i k) c)) (unit F c k)

    pub null_at : (k : ℕ) → null k k ≡ F.one
    null_at k = cond-false (ltb k k) (F.neg (T (λ i. a i k) k)) (unit F k k) (le-ltb k k (omega arith)) ∙ unit_same F k

    pub null_after : (k c : ℕ) → k < c → null k c ≡ F.nil
    null_after k c h =
        cond-false (ltb c k) (F.neg (T (λ i. a i k) c)) (unit F c k) (le-ltb c k (omega arith))
        ∙ unit_other F c k (λ e. omega arith)

    pub reached_null : (k : ℕ) → Reached n a k T → k < n → ((r : ℕ) → k ≤ r → r < n → T (λ i. a i k) r ≡ F.nil)
        → (r : ℕ) → r < n → total F n (λ c. F.mul (a r c) (null k c)) ≡ F.nil
    reached_null k t hk none =
        t.faithful.apart (λ i. total F n (λ c. F.mul (a i c) (null k c))) (λ i. F.nil)
        (λ r l.
        faithful_times F n T t.faithful n a (null k) r l ∙ vanishes r l ∙ sym (faithful_nil F n T t.faithful r l))
      where
        term : ℕ → ℕ → K
        term r c = F.mul (T (λ i. a i c) r) (null k c)

        at : (r : ℕ) → term r k ≡ T (λ i. a i k) r
        at r = ap (F.mul (T (λ i. a i k) r)) (null_at k) ∙ F.mul_one (T (λ i. a i k) r)

        -- the columns before k, which are unit columns
        before : (r c : ℕ) → r < n → c < k → term r c ≡ F.mul (unit F c r) (F.neg (T (λ i. a i k) c))
        before r c l h =
            ap₂ F.mul (t.units c h r l)
            (cond-true (ltb c k) (F.neg (T (λ i. a i k) c)) (unit F c k) (lt-ltb c k h))

        front : (r : ℕ) → r < n → F.add (total F k (term r)) (term r k) ≡ F.nil
        front r l =
            ⊎_elim
            (λ h.
            ap₂ F.add
            (total_cong F k (term r) (λ c. F.mul (unit F c r) (F.neg (T (λ i. a i k) c))) (λ c g. before r c l g)
            ∙ total_pick F k r (λ c. F.neg (T (λ i. a i k) c)) h)
            (at r)
            ∙ neg_add F (T (λ i. a i k) r))
            (λ h.
            ap₂ F.add
            (total_nil F k (term r)
            (λ c g.
            before r c l g
            ∙ ap (λ y. F.mul y (F.neg (T (λ i. a i k) c))) (unit_other F c r (λ e. omega arith))
            ∙ nil_mul F (F.neg (T (λ i. a i k) c))))
            (at r ∙ none r h l)
            ∙ F.add_nil F.nil)
            (cases_lt r k)

        vanishes : (r : ℕ) → r < n → total F n (term r) ≡ F.nil
        vanishes r l =
            let parts : n ≡ suc k + (n - suc k) = omega arith in
            ap (λ m. total F m (term r)) parts
            ∙ total_split F (suc k) (n - suc k) (term r)
            ∙ ap₂ F.add (total_more F k (term r) ∙ front r l)
            (total_nil F (n - suc k) (λ i. term r (suc k + i))
            (λ i h. ap (F.mul (T (λ j. a j (suc k + i)) r)) (null_after k (suc k + i) (omega arith)) ∙ mul_nil F (T (λ j. a j (suc k + i)) r)))
            ∙ F.add_nil F.nil

  -- one column more
  pub reached_more : (n : ℕ) (a : ℕ → ℕ → K) (k : ℕ) (T : (ℕ → K) → ℕ → K) → Reached n a k T
      → (p : ℕ) (d : K) (g : ℕ → K) → k ≤ p → p < n → F.mul (T (λ i. a i k) p) d ≡ F.one
      → ((r : ℕ) → r < n → r ≢ k → g r ≡ F.neg (T (λ i. a i k) (swapped k p r))) → Reached n a (suc k) (λ u. pivoted F k p d g (T u))
  reached_more n a k T t p d g hk hp inv h = record {
    faithful =
        faithful_after F n (pivoted F k p d g) T (pivoted_faithful F n k p d g (omega arith) hp (T (λ i. a i k) p) inv) t.faithful;
    units = λ c hc r l.
        ⊎_elim
        (λ e.
        pivoted_keeps F n k p d g hk hp (T (λ i. a i c)) c e (t.units c e) r l)
        (λ e.
        let same : k ≡ c = omega arith in
        let at : pivoted F k p d g (T (λ i. a i k)) r ≡ unit F k r = pivoted_clears F n k p d g (T (λ i. a i k)) inv h r l in
        ap (λ j. pivoted F k p d g (T (λ i. a i j)) r) (sym same) ∙ at ∙ ap (λ j. unit F j r) same)
        (cases_lt c k);
  }

  -- among the numbers of a column from k on, below m: one that is not 0, or all are 0
  pub record Pivot (k m : ℕ) (u : ℕ → K) : Type 0 where
    pub row : ℕ
    pub from : k ≤ row
    pub below : row < m
    pub nonzero : u row ≢ F.nil

  pivot_or_none : (k m : ℕ) (u : ℕ → K) → Pivot k m u ⊎ ((r : ℕ) → k ≤ r → r < m → u r ≡ F.nil)
  pivot_or_none k zero u = inr (λ r h l. absurd (omega arith))
  pivot_or_none k (suc m) u = ⊎_elim found further (pivot_or_none k m u)
    where
      found : Pivot k m u → Pivot k (suc m) u ⊎ ((r : ℕ) → k ≤ r → r < suc m → u r ≡ F.nil)
      found w = inl (record { row = w.row; from = w.from; below = omega (arith, w.below); nonzero = w.nonzero })

      all : ((r : ℕ) → k ≤ r → r < m → u r ≡ F.nil) → (k ≤ m → u m ≡ F.nil) → (r : ℕ) → k ≤ r → r < suc m → u r ≡ F.nil
      all before here r h l =
          ⊎_elim (λ e. ap u e ∙ here (omega arith)) (λ a. before r h (omega arith)) (cases_eq r m)

      further : ((r : ℕ) → k ≤ r → r < m → u r ≡ F.nil) → Pivot k (suc m) u ⊎ ((r : ℕ) → k ≤ r → r < suc m → u r ≡ F.nil)
      further before =
          ⊎_elim (λ low. inr (all before (λ h. absurd (omega arith))))
          (λ high.
          elim (F.is_nil (u m)) [
            | yes e ↦ inr (all before (λ h. e))
            | no e ↦ inl (record { row = m; from = high; below = omega arith; nonzero = e })
          ])
          (cases_lt m k)

  -- a vector that is sent to 0, with 1 at a place and 0 after it
  pub record Sent (n : ℕ) (a : ℕ → ℕ → K) : Type 0 where
    pub place : ℕ
    pub vector : ℕ → K
    pub within : place < n
    pub one_there : vector place ≡ F.one
    pub nil_after : (c : ℕ) → place < c → vector c ≡ F.nil
    pub to_nil : (r : ℕ) → r < n → total F n (λ c. F.mul (a r c) (vector c)) ≡ F.nil

  -- a faithful map under which all columns are unit columns, or a vector that is sent to 0
  pub alternative : (n : ℕ) (a : ℕ → ℕ → K) → ((T : (ℕ → K) → ℕ → K) × Reached n a n T) ⊎ Sent n a
  alternative n a = reach n (omega arith)
    where
      step : (k : ℕ) → k < n → ((T : (ℕ → K) → ℕ → K) × Reached n a k T) → ((T : (ℕ → K) → ℕ → K) × Reached n a (suc k) T) ⊎ Sent n a
      step k hk t =
          let u = t.0 (λ i. a i k) in
          ⊎_elim
          (λ w.
          let i = F.mul_inverse (u w.row) w.nonzero in
          let g : ℕ → K = λ r. F.neg (u (swapped k w.row r)) in
          inl
          ((λ v. pivoted F k w.row i.0 g (t.0 v)), reached_more n a k t.0 t.1 w.row i.0 g w.from w.below i.1 (λ r l b. refl)))
          (λ none.
          inr
          (record {
            place = k;
            vector = null n a t.0 k;
            within = hk;
            one_there = null_at n a t.0 k;
            nil_after = null_after n a t.0 k;
            to_nil = reached_null n a t.0 k t.1 hk none;
          }))
          (pivot_or_none k n u)

      reach : (k : ℕ) → k ≤ n → ((T : (ℕ → K) → ℕ → K) × Reached n a k T) ⊎ Sent n a
      reach zero h = inl ((λ u. u), reached_none n a)
      reach (suc k) h = ⊎_elim (step k (omega arith)) inr (reach k (omega arith))
