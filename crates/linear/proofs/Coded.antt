-- The codes of a field as its numbers, with laws that need no premise. Assumes nothing.
--   Code      a number with a proof that it is a code
--   code      a number as a code: itself, and 0 where it is none
--   coded     the field on its codes
use Rattle.std.proofs.Common.{◌≡◌, ℕ, zero, suc, ◌+◌, ◌<◌, ◌≤◌, ◌≢◌, sym, refl, ap, ◌∙◌, ap₂, ⊎_elim, add-zero, add-suc, arith}
use mathlib.Core.Path.{fun_ext}
use mathlib.Core.HLevel.{Σ_prop_path}
use native.Mathlib.Bridge.{le_prop}
use Rattle.std.proofs.lemmas.Bool.{cases_eq, cases_lt}
use Rattle.field.specs.Codes.{Operations, Laws, sum}
use Rattle.field.specs.Inverse.{mul_zero}
pub use Rattle.field.proofs.Sums.{sum_none, sum_more, sum_cong}
use Rattle.linear.proofs.Scalars.{Scalars}
use Rattle.linear.proofs.Sums.{total, total_one}

-- a number with a proof that it is a code
abbrev pub Code : Operations → Type 0
Code o = (a : ℕ) × (a < o.size)

-- codes are equal where their numbers are
pub code_path : (o : Operations) (a b : Code o) → a.0 ≡ b.0 → a ≡ b
code_path o a b e = Σ_prop_path (λ (n : ℕ). le_prop {n = suc n} {m = o.size}) {u = a} {v = b} e

module _ {o : Operations} (laws : Laws o) where
  pub zero_code : 0 < o.size
  zero_code = omega (arith, laws.size_least)

  pub one_code : 1 < o.size
  one_code = omega (arith, laws.size_least)

  -- the field on its codes
  unfoldable pub coded : Scalars (Code o)
  coded = record {
    nil = (0, zero_code);
    one = (1, one_code);
    add = λ a b. (o.add a.0 b.0, laws.add_code a.0 b.0);
    neg = λ a. (o.neg a.0, laws.neg_code a.0);
    mul = λ a b. (o.mul a.0 b.0, laws.mul_code a.0 b.0);
    add_comm = λ a b. code_path o _ _ (laws.add_comm a.0 b.0);
    add_assoc = λ a b c. code_path o _ _ (laws.add_assoc a.0 b.0 c.0 a.1 b.1 c.1);
    add_nil = λ a. code_path o _ _ (laws.add_zero a.0 a.1);
    add_neg = λ a. code_path o _ _ (laws.add_neg a.0 a.1);
    mul_comm = λ a b. code_path o _ _ (laws.mul_comm a.0 b.0);
    mul_assoc = λ a b c. code_path o _ _ (laws.mul_assoc a.0 b.0 c.0 a.1 b.1 c.1);
    mul_one = λ a. code_path o _ _ (laws.mul_one a.0 a.1);
    mul_add = λ a b c. code_path o _ _ (laws.mul_add a.0 b.0 c.0 a.1 b.1 c.1);
    is_nil = λ a.
        ⊎_elim (λ e. yes (code_path o a (0, zero_code) e)) (λ apart. no (λ e. apart (ap (λ x. x.0) e))) (cases_eq a.0 0);
    mul_inverse = λ a apart.
        let w = laws.mul_inverse a.0 a.1 (λ e. apart (code_path o a (0, zero_code) e)) in
        ((w.0, w.1), code_path o _ _ w.2);
  }

  -- a number as a code: itself, and 0 where it is none
  unfoldable pub code : ℕ → Code o
  code a = (o.add a 0, laws.add_code a 0)

  pub code_of : (a : ℕ) → a < o.size → (code a).0 ≡ a
  unfolding code
  code_of a h = laws.add_zero a h

  pub code_is : (a : Code o) → code a.0 ≡ a
  code_is a = code_path o (code a.0) a (code_of a.0 a.1)

  -- what is no code counts as 0
  pub code_outside : (a : ℕ) → o.size ≤ a → code a ≡ coded.nil
  unfolding code coded
  code_outside a h = code_path o _ _ (laws.add_outside a 0 h)

  pub code_inj : (a b : ℕ) → a < o.size → b < o.size → code a ≡ code b → a ≡ b
  code_inj a b ha hb e = sym (code_of a ha) ∙ ap (λ x. x.0) e ∙ code_of b hb

  pub code_zero : code 0 ≡ coded.nil
  unfolding coded
  code_zero = code_is coded.nil

  pub code_one : code 1 ≡ coded.one
  unfolding coded
  code_one = code_is coded.one

  pub code_add : (a b : ℕ) → a < o.size → b < o.size → code (o.add a b) ≡ coded.add (code a) (code b)
  unfolding coded
  code_add a b ha hb =
      code_path o _ _
      (code_of (o.add a b) (laws.add_code a b) ∙ sym (ap₂ o.add (code_of a ha) (code_of b hb)))

  pub code_neg : (a : ℕ) → a < o.size → code (o.neg a) ≡ coded.neg (code a)
  unfolding coded
  code_neg a ha = code_path o _ _ (code_of (o.neg a) (laws.neg_code a) ∙ sym (ap o.neg (code_of a ha)))

  -- a product may be of any numbers, since what is no code makes it 0
  pub code_mul : (a b : ℕ) → code (o.mul a b) ≡ coded.mul (code a) (code b)
  unfolding coded
  code_mul a b = code_path o _ _ (code_of (o.mul a b) (laws.mul_code a b) ∙ sym (same_left a b ∙ same_right a b))
    where
      same : (x y : ℕ) → o.mul (code x).0 y ≡ o.mul x y
      same x y =
          ⊎_elim (λ h. ap (λ z. o.mul z y) (code_of x h))
          (λ h.
          ap (λ z. o.mul z.0 y) (code_outside x h) ∙ laws.mul_comm 0 y ∙ mul_zero laws y ∙ sym (laws.mul_outside x y h))
          (cases_lt x o.size)

      same_left : (x y : ℕ) → o.mul (code x).0 (code y).0 ≡ o.mul x (code y).0
      same_left x y = same x (code y).0

      same_right : (x y : ℕ) → o.mul x (code y).0 ≡ o.mul x y
      same_right x y = laws.mul_comm x (code y).0 ∙ same y x ∙ laws.mul_comm y x

  -- a sum of codes is a code, and the same sum over the field's numbers
  pub sum_below : (k : ℕ) (f : ℕ → ℕ) → sum o k f < o.size
  unfolding sum
  sum_below zero f = zero_code
  sum_below (suc k) f = laws.add_code (sum o k f) (f k)

  pub code_sum : (k : ℕ) (f : ℕ → ℕ) → ((i : ℕ) → i < k → f i < o.size) → code (sum o k f) ≡ total coded k (λ i. code (f i))
  unfolding sum total
  code_sum zero f h = code_zero
  code_sum (suc k) f h =
      code_add (sum o k f) (f k) (sum_below k f) (h k (omega arith))
      ∙ ap (λ x. coded.add x (code (f k))) (code_sum k f (λ i l. h i (omega arith)))

  pub sum_of_total : (k : ℕ) (f : ℕ → Code o) → sum o k (λ i. (f i).0) ≡ (total coded k f).0
  unfolding sum total coded
  sum_of_total zero f = refl
  sum_of_total (suc k) f = ap (λ x. o.add x (f k).0) (sum_of_total k f)

  -- a sum of products, of any numbers
  pub code_products : (k : ℕ) (f g : ℕ → ℕ)
      → code (sum o k (λ i. o.mul (f i) (g i))) ≡ total coded k (λ i. coded.mul (code (f i)) (code (g i)))
  code_products k f g =
      code_sum k (λ i. o.mul (f i) (g i)) (λ i l. laws.mul_code (f i) (g i))
      ∙ ap (total coded k) (fun_ext (λ i. code_mul (f i) (g i)))

  -- where no product counts, the sum is 0
  pub products_zero : (k : ℕ) (f g : ℕ → ℕ) → ((i : ℕ) → i < k → f i ≡ 0) → sum o k (λ i. o.mul (f i) (g i)) ≡ 0
  unfolding sum
  products_zero zero f g h = refl
  products_zero (suc k) f g h =
      ap₂ o.add (products_zero k f g (λ i l. h i (omega arith)))
      (ap (λ x. o.mul x (g k)) (h k (omega arith)) ∙ laws.mul_comm 0 (g k) ∙ mul_zero laws (g k))
      ∙ laws.add_zero 0 zero_code

  -- products from k on that do not count
  pub products_past : (k m : ℕ) (f g : ℕ → ℕ) → ((i : ℕ) → k ≤ i → f i ≡ 0)
      → sum o (k + m) (λ i. o.mul (f i) (g i)) ≡ sum o k (λ i. o.mul (f i) (g i))
  unfolding sum
  products_past k zero f g h = ap (λ n. sum o n (λ i. o.mul (f i) (g i))) (add-zero k)
  products_past k (suc m) f g h =
      ap (λ n. sum o n (λ i. o.mul (f i) (g i))) (add-suc k m)
      ∙ ap₂ o.add (products_past k m f g h)
      (ap (λ x. o.mul x (g (k + m))) (h (k + m) (omega arith)) ∙ laws.mul_comm 0 (g (k + m)) ∙ mul_zero laws (g (k + m)))
      ∙ laws.add_zero (sum o k (λ i. o.mul (f i) (g i))) (sum_below k (λ i. o.mul (f i) (g i)))

  -- a unit row times a word picks a number
  pub products_pick : (k j : ℕ) (f g : ℕ → ℕ) → j < k → f j ≡ 1 → ((i : ℕ) → i < k → i ≢ j → f i ≡ 0)
      → sum o k (λ i. o.mul (f i) (g i)) ≡ o.mul 1 (g j)
  products_pick k j f g h one others =
      code_inj (sum o k (λ i. o.mul (f i) (g i))) (o.mul 1 (g j)) (sum_below k (λ i. o.mul (f i) (g i))) (laws.mul_code 1 (g j))
      (code_sum k (λ i. o.mul (f i) (g i)) (λ i l. laws.mul_code (f i) (g i))
      ∙ total_one coded k j (λ i. code (o.mul (f i) (g i))) h
      (λ i l apart.
      ap code (ap (λ x. o.mul x (g i)) (others i l apart) ∙ laws.mul_comm 0 (g i) ∙ mul_zero laws (g i)) ∙ code_zero)
      ∙ ap (λ x. code (o.mul x (g j))) one)
