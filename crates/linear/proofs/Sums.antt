-- Finite sums over any field: f 0 + f 1 + .. + f (k − 1). Assumes nothing.
--   total     the sum of the first k numbers of a sequence
--   unit      1 where two indices agree, else 0
use Rattle.std.proofs.Common.{◌≡◌, ℕ, zero, suc, ◌+◌, ◌<◌, cond, eqb, ◌≢◌, sym, refl, ap, ◌∙◌, ap₂, ⊎_elim, add-zero, add-suc, arith}
use Rattle.std.proofs.lemmas.Bool.{eq-eqb, ne_eqb, cases_eq, cond-true, cond-false}
use Rattle.linear.proofs.Scalars.{Scalars, add_middle, mul_nil, nil_mul, one_mul, neg_nil, neg_of_add}

-- f 0 + f 1 + .. + f (k − 1), from 0
unfoldable pub total : {K : Type 0} → Scalars K → ℕ → (ℕ → K) → K
total F zero f = F.nil
total F (suc k) f = F.add (total F k f) (f k)

-- number i of the unit vector that has its 1 at j
abbrev pub unit : {K : Type 0} → Scalars K → ℕ → ℕ → K
unit F i j = cond (eqb i j) F.one F.nil

module _ {K : Type 0} (F : Scalars K) where
  pub total_none : (f : ℕ → K) → total F 0 f ≡ F.nil
  unfolding total
  total_none f = refl

  pub total_more : (k : ℕ) (f : ℕ → K) → total F (suc k) f ≡ F.add (total F k f) (f k)
  unfolding total
  total_more k f = refl

  -- sequences that agree below k have the same sum
  pub total_cong : (k : ℕ) (f g : ℕ → K) → ((i : ℕ) → i < k → f i ≡ g i) → total F k f ≡ total F k g
  unfolding total
  total_cong zero f g h = refl
  total_cong (suc k) f g h = ap₂ F.add (total_cong k f g (λ i l. h i (omega arith))) (h k (omega arith))

  pub total_nil : (k : ℕ) (f : ℕ → K) → ((i : ℕ) → i < k → f i ≡ F.nil) → total F k f ≡ F.nil
  unfolding total
  total_nil zero f h = refl
  total_nil (suc k) f h = ap₂ F.add (total_nil k f (λ i l. h i (omega arith))) (h k (omega arith)) ∙ F.add_nil F.nil

  pub total_add : (k : ℕ) (f g : ℕ → K) → total F k (λ i. F.add (f i) (g i)) ≡ F.add (total F k f) (total F k g)
  unfolding total
  total_add zero f g = sym (F.add_nil F.nil)
  total_add (suc k) f g =
      ap (λ x. F.add x (F.add (f k) (g k))) (total_add k f g) ∙ add_middle F (total F k f) (total F k g) (f k) (g k)

  pub total_mul : (k : ℕ) (a : K) (f : ℕ → K) → total F k (λ i. F.mul a (f i)) ≡ F.mul a (total F k f)
  unfolding total
  total_mul zero a f = sym (mul_nil F a)
  total_mul (suc k) a f = ap (λ x. F.add x (F.mul a (f k))) (total_mul k a f) ∙ sym (F.mul_add a (total F k f) (f k))

  -- the common factor on the right
  pub total_mul_right : (k : ℕ) (f : ℕ → K) (a : K) → total F k (λ i. F.mul (f i) a) ≡ F.mul (total F k f) a
  total_mul_right k f a =
      total_cong k (λ i. F.mul (f i) a) (λ i. F.mul a (f i)) (λ i l. F.mul_comm (f i) a)
      ∙ total_mul k a f
      ∙ F.mul_comm a (total F k f)

  pub total_neg : (k : ℕ) (f : ℕ → K) → total F k (λ i. F.neg (f i)) ≡ F.neg (total F k f)
  unfolding total
  total_neg zero f = sym (neg_nil F)
  total_neg (suc k) f = ap (λ x. F.add x (F.neg (f k))) (total_neg k f) ∙ sym (neg_of_add F (total F k f) (f k))

  pub total_minus : (k : ℕ) (f g : ℕ → K)
      → total F k (λ i. F.add (f i) (F.neg (g i))) ≡ F.add (total F k f) (F.neg (total F k g))
  total_minus k f g = total_add k f (λ i. F.neg (g i)) ∙ ap (F.add (total F k f)) (total_neg k g)

  -- a double sum can be taken in either order
  pub total_exchange : (m n : ℕ) (f : ℕ → ℕ → K)
      → total F m (λ i. total F n (λ j. f i j)) ≡ total F n (λ j. total F m (λ i. f i j))
  unfolding total
  total_exchange zero n f = sym (total_nil n (λ j. F.nil) (λ j l. refl))
  total_exchange (suc m) n f =
      ap (λ x. F.add x (total F n (λ j. f m j))) (total_exchange m n f)
      ∙ sym (total_add n (λ j. total F m (λ i. f i j)) (λ j. f m j))

  -- a + b terms are the first a and the b after them
  pub total_split : (a b : ℕ) (f : ℕ → K) → total F (a + b) f ≡ F.add (total F a f) (total F b (λ i. f (a + i)))
  unfolding total
  total_split a zero f = ap (λ n. total F n f) (add-zero a) ∙ sym (F.add_nil (total F a f))
  total_split a (suc b) f =
      ap (λ n. total F n f) (add-suc a b)
      ∙ ap (λ x. F.add x (f (a + b))) (total_split a b f)
      ∙ F.add_assoc (total F a f) (total F b (λ i. f (a + i))) (f (a + b))

  -- one term taken out
  pub total_out : (k j : ℕ) (f : ℕ → K) → j < k → total F k f ≡ F.add (f j) (total F k (λ i. cond (eqb i j) F.nil (f i)))
  unfolding total
  total_out zero j f h = absurd (omega arith)
  total_out (suc k) j f h = ⊎_elim last (before (total_out k j f)) (cases_eq j k)
    where
      rest : ℕ → K
      rest i = cond (eqb i j) F.nil (f i)

      last : j ≡ k → F.add (total F k f) (f k) ≡ F.add (f j) (F.add (total F k rest) (rest k))
      last e =
          F.add_comm (total F k f) (f k)
          ∙ ap₂ F.add (ap f (sym e))
          (sym
          (ap₂ F.add
          (total_cong k rest f (λ i l. cond-false (eqb i j) F.nil (f i) (ne_eqb i j (λ s. omega arith))))
          (cond-true (eqb k j) F.nil (f k) (eq-eqb k j (sym e)))
          ∙ F.add_nil (total F k f)))

      before : (j < k → total F k f ≡ F.add (f j) (total F k rest)) → (j ≡ k → ⊥) → F.add (total F k f) (f k) ≡ F.add (f j) (F.add (total F k rest) (rest k))
      before ih apart =
          ap₂ F.add (ih (omega arith))
          (sym (cond-false (eqb k j) F.nil (f k) (ne_eqb k j (λ s. apart (sym s)))))
          ∙ F.add_assoc (f j) (total F k rest) (rest k)

  -- a sum with one term other than 0
  pub total_one : (k j : ℕ) (f : ℕ → K) → j < k → ((i : ℕ) → i < k → i ≢ j → f i ≡ F.nil) → total F k f ≡ f j
  total_one k j f h others =
      total_out k j f h
      ∙ ap (F.add (f j))
      (total_nil k (λ i. cond (eqb i j) F.nil (f i))
      (λ i l.
      ⊎_elim (λ same. cond-true (eqb i j) F.nil (f i) (eq-eqb i j same))
      (λ apart. cond-false (eqb i j) F.nil (f i) (ne_eqb i j apart) ∙ others i l apart)
      (cases_eq i j)))
      ∙ F.add_nil (f j)

  -- a unit vector picks one number
  pub unit_same : (j : ℕ) → unit F j j ≡ F.one
  unit_same j = cond-true (eqb j j) F.one F.nil (eq-eqb j j refl)

  pub unit_other : (i j : ℕ) → i ≢ j → unit F i j ≡ F.nil
  unit_other i j apart = cond-false (eqb i j) F.one F.nil (ne_eqb i j apart)

  pub total_pick : (k j : ℕ) (f : ℕ → K) → j < k → total F k (λ i. F.mul (unit F i j) (f i)) ≡ f j
  total_pick k j f h =
      total_one k j (λ i. F.mul (unit F i j) (f i)) h
      (λ i l apart. ap (λ x. F.mul x (f i)) (unit_other i j apart) ∙ nil_mul F (f i))
      ∙ ap (λ x. F.mul x (f j)) (unit_same j)
      ∙ one_mul F (f j)

  pub total_pick_right : (k j : ℕ) (f : ℕ → K) → j < k → total F k (λ i. F.mul (f i) (unit F i j)) ≡ f j
  total_pick_right k j f h =
      total_cong k (λ i. F.mul (f i) (unit F i j)) (λ i. F.mul (unit F i j) (f i)) (λ i l. F.mul_comm (f i) (unit F i j))
      ∙ total_pick k j f h
