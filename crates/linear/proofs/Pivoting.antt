-- A pivot's step on a column, which is a faithful map. Assumes nothing.
--   pivoted    the column after the step: two rows swapped, the pivot's row scaled, the other rows cleared
use Rattle.std.proofs.Common.{◌≡◌, ℕ, ◌<◌, ◌≤◌, cond, eqb, ◌≢◌, sym, refl, ap, ◌∙◌, ap₂, ⊎_elim, arith}
use Rattle.std.proofs.lemmas.Bool.{eq-eqb, ne_eqb, cases_eq, cond-true, cond-false}
use Rattle.linear.specs.Pivots.{swapped}
use Rattle.linear.proofs.Swaps.{swapped_second, swapped_other, swapped_below, swapped_back}
use Rattle.linear.proofs.Scalars.{Scalars, add_cancel, add_middle, mul_nil, mul_left_comm, mul_cancel}
use Rattle.linear.proofs.Sums.{unit, unit_same, unit_other}
use Rattle.linear.proofs.Faithful.{Faithful}

module _ {K : Type 0} (F : Scalars K) where
  -- a pivot's step on a column: rows k and p change places, row k is multiplied by d, and each other row r has g r times
  -- row k added to it
  abbrev pub pivoted : ℕ → ℕ → K → (ℕ → K) → (ℕ → K) → ℕ → K
  pivoted k p d g u r =
      cond (eqb r k) (F.mul d (u p)) (F.add (u (swapped k p r)) (F.mul (g r) (F.mul d (u p))))

  module _ (n k p : ℕ) (d : K) (g : ℕ → K) where
    pub pivoted_at : (u : ℕ → K) (r : ℕ) → r ≡ k → pivoted k p d g u r ≡ F.mul d (u p)
    pivoted_at u r e = cond-true (eqb r k) _ _ (eq-eqb r k e)

    pub pivoted_off : (u : ℕ → K) (r : ℕ) → r ≢ k
        → pivoted k p d g u r ≡ F.add (u (swapped k p r)) (F.mul (g r) (F.mul d (u p)))
    pivoted_off u r a = cond-false (eqb r k) _ _ (ne_eqb r k a)

    pivoted_same : k < n → p < n → (u v : ℕ → K) → ((r : ℕ) → r < n → u r ≡ v r)
        → (r : ℕ) → r < n → pivoted k p d g u r ≡ pivoted k p d g v r
    pivoted_same hk hp u v h r l =
        let e = h p hp in
        let s = h (swapped k p r) (swapped_below n k p r hk hp l) in
        ap₂ (λ x y. cond (eqb r k) (F.mul d x) (F.add y (F.mul (g r) (F.mul d x)))) e s

    pivoted_sums : (u v : ℕ → K) (r : ℕ)
        → pivoted k p d g (λ i. F.add (u i) (v i)) r ≡ F.add (pivoted k p d g u r) (pivoted k p d g v r)
    pivoted_sums u v r =
        ⊎_elim
        (λ e.
        pivoted_at (λ i. F.add (u i) (v i)) r e
        ∙ F.mul_add d (u p) (v p)
        ∙ sym (ap₂ F.add (pivoted_at u r e) (pivoted_at v r e)))
        (λ a.
        pivoted_off (λ i. F.add (u i) (v i)) r a
        ∙ ap (F.add (F.add (u (swapped k p r)) (v (swapped k p r))))
        (ap (F.mul (g r)) (F.mul_add d (u p) (v p)) ∙ F.mul_add (g r) (F.mul d (u p)) (F.mul d (v p)))
        ∙ add_middle F (u (swapped k p r)) (v (swapped k p r)) (F.mul (g r) (F.mul d (u p))) (F.mul (g r) (F.mul d (v p)))
        ∙ sym (ap₂ F.add (pivoted_off u r a) (pivoted_off v r a)))
        (cases_eq r k)

    pivoted_multiples : (b : K) (u : ℕ → K) (r : ℕ)
        → pivoted k p d g (λ i. F.mul b (u i)) r ≡ F.mul b (pivoted k p d g u r)
    pivoted_multiples b u r =
        ⊎_elim
        (λ e.
        pivoted_at (λ i. F.mul b (u i)) r e ∙ mul_left_comm F d b (u p) ∙ sym (ap (F.mul b) (pivoted_at u r e)))
        (λ a.
        pivoted_off (λ i. F.mul b (u i)) r a
        ∙ ap (F.add (F.mul b (u (swapped k p r))))
        (ap (F.mul (g r)) (mul_left_comm F d b (u p)) ∙ mul_left_comm F (g r) b (F.mul d (u p)))
        ∙ sym (F.mul_add b (u (swapped k p r)) (F.mul (g r) (F.mul d (u p))))
        ∙ sym (ap (F.mul b) (pivoted_off u r a)))
        (cases_eq r k)

    pivoted_apart : k < n → p < n → (e : K) → F.mul e d ≡ F.one → (u v : ℕ → K)
        → ((r : ℕ) → r < n → pivoted k p d g u r ≡ pivoted k p d g v r) → (r : ℕ) → r < n → u r ≡ v r
    pivoted_apart hk hp e inv u v h r l =
        let scaled : F.mul d (u p) ≡ F.mul d (v p) = sym (pivoted_at u k refl) ∙ h k hk ∙ pivoted_at v k refl in
        ⊎_elim
        (λ s. ap u s ∙ mul_cancel F e d (u p) (v p) inv scaled ∙ ap v (sym s))
        (λ a.
        let q = swapped k p r in
        let back = swapped_back k p r a in
        let here = h q (swapped_below n k p r hk hp l) in
        let cleared : F.add (u (swapped k p q)) (F.mul (g q) (F.mul d (u p)))
        ≡ F.add (v (swapped k p q)) (F.mul (g q) (F.mul d (u p)))
        = sym (pivoted_off u q back.1)
        ∙ here
        ∙ pivoted_off v q back.1
        ∙ ap (λ x. F.add (v (swapped k p q)) (F.mul (g q) x)) (sym scaled) in
        ap u (sym back.0)
        ∙ add_cancel F (u (swapped k p q)) (v (swapped k p q)) (F.mul (g q) (F.mul d (u p))) cleared
        ∙ ap v back.0)
        (cases_eq r p)

    pub pivoted_faithful : k < n → p < n → (e : K) → F.mul e d ≡ F.one → Faithful F n (pivoted k p d g)
    pivoted_faithful hk hp e inv = record {
      same = pivoted_same hk hp;
      sums = λ u v r l. pivoted_sums u v r;
      multiples = λ b u r l. pivoted_multiples b u r;
      apart = pivoted_apart hk hp e inv;
    }

    -- a unit column that is done stays as it is
    pub pivoted_keeps : k ≤ p → p < n → (u : ℕ → K) (c : ℕ) → c < k → ((r : ℕ) → r < n → u r ≡ unit F c r)
        → (r : ℕ) → r < n → pivoted k p d g u r ≡ unit F c r
    pivoted_keeps hk hp u c hc h r l =
        ⊎_elim
        (λ e. pivoted_at u r e ∙ scaled ∙ sym (unit_other F c r (λ s. omega arith)))
        (λ a.
        pivoted_off u r a
        ∙ ap₂ F.add (h (swapped k p r) (swapped_below n k p r (omega arith) hp l) ∙ moved r a)
        (ap (F.mul (g r)) scaled ∙ mul_nil F (g r))
        ∙ F.add_nil (unit F c r))
        (cases_eq r k)
      where
        scaled : F.mul d (u p) ≡ F.nil
        scaled = ap (F.mul d) (h p hp ∙ unit_other F c p (λ s. omega arith)) ∙ mul_nil F d

        moved : (r : ℕ) → r ≢ k → unit F c (swapped k p r) ≡ unit F c r
        moved r a =
            ⊎_elim
            (λ s.
            ap (unit F c) (swapped_second k p r a s)
            ∙ unit_other F c k (λ x. omega arith)
            ∙ sym (unit_other F c r (λ x. omega arith)))
            (λ b. ap (unit F c) (swapped_other k p r a b))
            (cases_eq r p)

    -- the pivot's column becomes a unit column
    pub pivoted_clears : (u : ℕ → K) → F.mul (u p) d ≡ F.one → ((r : ℕ) → r < n → r ≢ k → g r ≡ F.neg (u (swapped k p r)))
        → (r : ℕ) → r < n → pivoted k p d g u r ≡ unit F k r
    pivoted_clears u inv h r l =
        let scaled : F.mul d (u p) ≡ F.one = F.mul_comm d (u p) ∙ inv in
        ⊎_elim
        (λ e. pivoted_at u r e ∙ scaled ∙ sym (ap (unit F k) e ∙ unit_same F k))
        (λ a.
        let x = u (swapped k p r) in
        pivoted_off u r a
        ∙ ap (F.add x) (ap₂ F.mul (h r l a) scaled ∙ F.mul_one (F.neg x))
        ∙ F.add_neg x
        ∙ sym (unit_other F k r (λ s. a (sym s))))
        (cases_eq r k)
