-- The state of a row reduction, and what holds once it ends. Assumes nothing.
--   Reducing      after k columns: the matrix at hand is the first one under a faithful map that made unit columns
use Rattle.std.proofs.Common.{◌≡◌, ℕ, ◌+◌, ◌*◌, ◌/◌, ◌%◌, ◌<◌, ◌≤◌, Bool, true, false, cond, eqb, List, length, get_or, sym, refl, ap, ◌∙◌, subst, ap₂, ⊎_elim, add-one, arith}
use Rattle.std.proofs.lemmas.Nat.{div-add-mod', div_below, mod_below}
use Rattle.std.proofs.lemmas.List.{get_or_past}
use Rattle.std.proofs.lemmas.Bool.{eq-eqb, ne_eqb, cases_eq, cases_lt, cond-true, cond-false}
use Rattle.field.specs.Codes.{Operations, Laws}
use Rattle.linear.specs.Pivots.{entry, swapped, Pivotless, Stepped}
use Rattle.linear.specs.Reductions.{Matrix, Vanishes, Kept, Solved, Stuck}
use Rattle.linear.specs.Systems.{times}
use Rattle.linear.proofs.Scalars.{Scalars}
use Rattle.linear.proofs.Sums.{total, total_cong}
use Rattle.linear.proofs.Coded.{Code, coded, code, code_of, code_inj, code_zero, code_one, code_add, code_neg, code_mul, code_products, sum_below, zero_code, one_code}
use Rattle.linear.proofs.Crossing.{over, along, solves_from, solves_to, reached_solution, reached_regular}
use Rattle.linear.proofs.Elimination.{Reached, reached_none, reached_more, reached_first, reached_null, null, null_at, null_after}
use Rattle.linear.proofs.Faithful.{faithful_times, faithful_nil}
use Rattle.linear.proofs.Pivoting.{pivoted, pivoted_at, pivoted_off, pivoted_keeps}
use Rattle.linear.proofs.Entries.{past-before, past_from}
use Rattle.linear.proofs.Solving.{solves_same}
use Rattle.linear.proofs.Swaps.{swapped_below}

unit-code : {o : Operations} (laws : Laws o) (b : Bool) → cond b 1 0 < o.size
unit-code laws true = one_code laws
unit-code laws false = zero_code laws

unit_is : {o : Operations} (laws : Laws o) (b : Bool) → code laws (cond b 1 0) ≡ cond b (coded laws).one (coded laws).nil
unit_is laws true = code_one laws
unit_is laws false = code_zero laws

module _ {o : Operations} (laws : Laws o) (n w : ℕ) where
  -- every number of a matrix of codes is a code, and so is the 0 past its end
  pub matrix_code : (s : List ℕ) → Matrix o n w s → (i : ℕ) → get_or s i 0 < o.size
  matrix_code s m i =
      ⊎_elim (m.codes i)
      (λ h. let P : ℕ → Type 0 = λ x. x < o.size in subst P (sym (get_or_past s i 0 h)) (zero_code laws))
      (cases_lt i (length s))

  -- after k columns: t is s under a faithful map that made the first k columns unit columns
  pub record Reducing (k : ℕ) (s t : List ℕ) : Type 0 where
    pub map : (ℕ → Code o) → ℕ → Code o
    pub reached : Reached (coded laws) n (over laws (entry w s)) k map
    pub columns : (r c : ℕ) → r < n → c < w → code laws (entry w t r c) ≡ map (λ i. over laws (entry w s) i c) r

  pub reducing_none : (s : List ℕ) → Reducing 0 s s
  reducing_none s = record {
    map = λ u. u;
    reached = reached_none (coded laws) n (over laws (entry w s));
    columns = λ r c hr hc. refl;
  }

  -- a pivot's step
  module _ (k : ℕ) (s t u : List ℕ) (m : Matrix o n w t) (now : Reducing k s t) (step : Stepped o n w k t u) (hk : k < n) where
    abbrev F : Scalars (Code o)
    F = coded laws

    abbrev p : ℕ
    p = step.row

    abbrev d : Code o
    d = code laws step.reciprocal

    abbrev column : ℕ → ℕ → Code o
    column c = now.map (λ i. over laws (entry w s) i c)

    abbrev g : ℕ → Code o
    g r = F.neg (column k (swapped k p r))

    code_below : (i : ℕ) → get_or t i 0 < o.size
    code_below = matrix_code t m

    inverse : F.mul (column k p) d ≡ F.one
    inverse =
        ap (λ x. F.mul x d) (sym (now.columns p k step.below (omega (arith, m.square))))
        ∙ sym (code_mul laws (entry w t p k) step.reciprocal)
        ∙ ap (code laws) step.product
        ∙ code_one laws

    -- a number of a column that is not done
    late : (r c : ℕ) → r < n → c < w → k ≤ c → code laws (entry w u r c) ≡ pivoted F k p d g (column c) r
    late r c hr hc l =
        let x = entry w t (swapped k p r) c in
        let y = entry w t (swapped k p r) k in
        let z = o.mul step.reciprocal (entry w t p c) in
        let hs : swapped k p r < n = swapped_below n k p r hk step.below hr in
        let scaled : code laws z ≡ F.mul d (column c p)
        = code_mul laws step.reciprocal (entry w t p c) ∙ ap (F.mul d) (now.columns p c step.below hc) in
        ap (code laws) (step.entries r c hr hc ∙ past_from k c (entry w t r c) _ l)
        ∙ ⊎_elim
        (λ e.
        ap (code laws) (cond-true (eqb r k) z _ (eq-eqb r k e)) ∙ scaled ∙ sym (pivoted_at F n k p d g (column c) r e))
        (λ b.
        ap (code laws) (cond-false (eqb r k) z _ (ne_eqb r k b))
        ∙ code_add laws x (o.mul (o.neg y) z) (code_below ((swapped k p r) * w + c)) (laws.mul_code (o.neg y) z)
        ∙ ap₂ F.add (now.columns (swapped k p r) c hs hc)
        (code_mul laws (o.neg y) z
        ∙ ap₂ F.mul
        (code_neg laws y (code_below ((swapped k p r) * w + k))
        ∙ ap F.neg (now.columns (swapped k p r) k hs (omega (arith, m.square))))
        scaled)
        ∙ sym (pivoted_off F n k p d g (column c) r b))
        (cases_eq r k)

    -- a number of a column that is done
    early : (r c : ℕ) → r < n → c < w → c < k → code laws (entry w u r c) ≡ pivoted F k p d g (column c) r
    early r c hr hc l =
        ap (code laws) (step.entries r c hr hc ∙ past-before k c (entry w t r c) _ l)
        ∙ now.columns r c hr hc
        ∙ now.reached.units c l r hr
        ∙ sym (pivoted_keeps F n k p d g step.from step.below (column c) c l (now.reached.units c l) r hr)

    pub reducing_more : Reducing (k + 1) s u
    reducing_more = record {
      map = λ v. pivoted F k p d g (now.map v);
      reached =
          let P : ℕ → Type 0 = λ j. Reached F n (over laws (entry w s)) j (λ v. pivoted F k p d g (now.map v)) in
          subst P (sym (add-one k))
          (reached_more F n (over laws (entry w s)) k now.map now.reached p d g step.from step.below inverse (λ r l b. refl));
      columns = λ r c hr hc. ⊎_elim (early r c hr hc) (late r c hr hc) (cases_lt c k);
    }

    -- every number of the new matrix is a code
    new_code : (r c : ℕ) → r < n → c < w → entry w u r c < o.size
    new_code r c hr hc =
        let P : ℕ → Type 0 = λ x. x < o.size in
        ⊎_elim
        (λ l.
        subst P (sym (step.entries r c hr hc ∙ past-before k c (entry w t r c) _ l)) (code_below (r * w + c)))
        (λ l.
        subst P (sym (step.entries r c hr hc ∙ past_from k c (entry w t r c) _ l))
        (⊎_elim
        (λ e. subst P (sym (cond-true (eqb r k) _ _ (eq-eqb r k e))) (laws.mul_code _ _))
        (λ b. subst P (sym (cond-false (eqb r k) _ _ (ne_eqb r k b))) (laws.add_code _ _))
        (cases_eq r k)))
        (cases_lt c k)

    pub matrix_more : length u ≡ length t → Matrix o n w u
    matrix_more same = record {
      square = m.square;
      size = same ∙ m.size;
      codes = λ i h.
          let pos : 0 < w = omega (arith, m.square) in
          let P : ℕ → Type 0 = λ j. get_or u j 0 < o.size in
          subst P (div-add-mod' i w) (new_code (i / w) (i % w) (div_below i w n pos (omega (arith, same, m.size))) (mod_below i w pos));
    }

  -- column k has no pivot
  pub reducing_stuck : (k : ℕ) (s t : List ℕ) → n ≤ w → k < n → Reducing k s t → Pivotless n w k t → Stuck o n w k s
  unfolding coded
  reducing_stuck k s t nw hk now none =
      let F = coded laws in
      let a = over laws (entry w s) in
      record {
        within = hk;
        vector = λ c. (null F n a now.map k c).0;
        null =
            solves_from laws n (entry w s) (λ r. 0) (null F n a now.map k) (λ i l. zero_code laws)
            (λ r l.
            reached_null F n a now.map k now.reached hk
            (λ q from below.
            sym (now.columns q k below (omega arith)) ∙ ap (code laws) (none q from below) ∙ code_zero laws)
            r l
            ∙ sym (code_zero laws));
        one = ap (λ x. x.0) (null_at F n a now.map k);
        after = λ c l. ap (λ x. x.0) (null_after F n a now.map k c l);
        first = λ v zero late c l.
            sym (code_of laws (v c) (zero.codes c l))
            ∙ ap (λ x. x.0)
            (reached_first F n a now.map k now.reached (along laws v)
            (λ r h. solves_to laws n (entry w s) (λ r. 0) v zero r h ∙ code_zero laws)
            (λ j from below. ap (code laws) (late j from below) ∙ code_zero laws)
            c l);
      }

  -- the first k columns are unit columns, and the same vectors are sent to zero
  module _ (k : ℕ) (s t : List ℕ) (mt : Matrix o n w t) (now : Reducing k s t) where
    abbrev K : Scalars (Code o)
    K = coded laws

    abbrev whole : List ℕ → (ℕ → ℕ) → ℕ → Code o
    whole x v r = total K w (λ c. K.mul (over laws (entry w x) r c) (along laws v c))

    -- what t sends a vector to is what s sends it to, mapped
    whole_mapped : (v : ℕ → ℕ) (r : ℕ) → r < n → whole t v r ≡ now.map (whole s v) r
    whole_mapped v r l =
        total_cong K w (λ c. K.mul (over laws (entry w t) r c) (along laws v c))
        (λ c. K.mul (now.map (λ i. over laws (entry w s) i c) r) (along laws v c))
        (λ c h. ap (λ x. K.mul x (along laws v c)) (now.columns r c l h))
        ∙ sym (faithful_times K n now.map now.reached.faithful w (over laws (entry w s)) (along laws v) r l)

    from_codes : (x : List ℕ) (v : ℕ → ℕ) → Vanishes o n w x v → (r : ℕ) → r < n → whole x v r ≡ K.nil
    from_codes x v h r l = sym (code_products laws w (λ c. entry w x r c) v) ∙ ap (code laws) (h r l) ∙ code_zero laws

    to_codes : (x : List ℕ) (v : ℕ → ℕ) → ((r : ℕ) → r < n → whole x v r ≡ K.nil) → Vanishes o n w x v
    to_codes x v h r l =
        code_inj laws (times o w (entry w x) v r) 0 (sum_below laws w (λ c. o.mul (entry w x r c) (v c))) (zero_code laws)
        (code_products laws w (λ c. entry w x r c) v ∙ h r l ∙ sym (code_zero laws))

    zero_mapped : (r : ℕ) → r < n → now.map (λ i. K.nil) r ≡ K.nil
    zero_mapped = faithful_nil K n now.map now.reached.faithful

    pub reducing_kept : k ≤ n → n ≤ w → Kept o n w k s t
    reducing_kept kn nw = record {
      matrix = mt;
      units = λ r c hr hc.
          code_inj laws (entry w t r c) (cond (eqb c r) 1 0) (matrix_code t mt (r * w + c)) (unit-code laws (eqb c r))
          (now.columns r c hr (omega arith) ∙ now.reached.units c hc r hr ∙ sym (unit_is laws (eqb c r)));
      onto = λ v h.
          to_codes t v
          (λ r l.
          whole_mapped v r l
          ∙ now.reached.faithful.same (whole s v) (λ i. K.nil) (from_codes s v h) r l
          ∙ zero_mapped r l);
      back = λ v h.
          to_codes s v
          (now.reached.faithful.apart (whole s v) (λ i. K.nil)
          (λ r l. sym (whole_mapped v r l) ∙ from_codes t v h r l ∙ sym (zero_mapped r l)));
    }

  -- every column has a pivot
  pub reducing_full : (s t : List ℕ) → Matrix o n w s → Matrix o n w t → Reducing n s t → Solved o n w s t
  reducing_full s t ms mt now = record {
    regular = reached_regular laws n (entry w s) now.map now.reached;
    solutions = λ j from below.
        let b : ℕ → ℕ = λ r. entry w s r j in
        solves_same o n (entry w s) b (λ c. (now.map (along laws b) c).0) (λ r. entry w t r j)
        (λ c l. sym (ap (λ x. x.0) (now.columns c j l below)) ∙ code_of laws (entry w t c j) (matrix_code t mt (c * w + j)))
        (reached_solution laws n (entry w s) now.map now.reached b (λ i l. matrix_code s ms (i * w + j)));
  }
