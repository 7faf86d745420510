-- A field on any carrier, its laws with no premise, and what follows from them at once. Assumes nothing.
--   Scalars     the operations of a field and their laws
--   minus       a plus the opposite of b
use Rattle.std.proofs.Common.{◌≡◌, ◌≢◌, sym, ap, ◌∙◌, ap₂}

pub record Scalars (K : Type 0) : Type 0 where
  pub nil : K
  pub one : K
  pub add : K → K → K
  pub neg : K → K
  pub mul : K → K → K
  pub add_comm : (a b : K) → add a b ≡ add b a
  pub add_assoc : (a b c : K) → add (add a b) c ≡ add a (add b c)
  pub add_nil : (a : K) → add a nil ≡ a
  pub add_neg : (a : K) → add a (neg a) ≡ nil
  pub mul_comm : (a b : K) → mul a b ≡ mul b a
  pub mul_assoc : (a b c : K) → mul (mul a b) c ≡ mul a (mul b c)
  pub mul_one : (a : K) → mul a one ≡ a
  pub mul_add : (a b c : K) → mul a (add b c) ≡ add (mul a b) (mul a c)
  -- whether a number is 0 can be told, and one that is not has a reciprocal
  pub is_nil : (a : K) → Dec (a ≡ nil)
  pub mul_inverse : (a : K) → a ≢ nil → (x : K) × (mul a x ≡ one)

-- a minus b
abbrev pub minus : {K : Type 0} → Scalars K → K → K → K
minus F a b = F.add a (F.neg b)

module _ {K : Type 0} (F : Scalars K) where
  open F use {nil, one, add, neg, mul, add_comm, add_assoc, add_nil, add_neg, mul_comm, mul_assoc, mul_one, mul_add}

  pub nil_add : (a : K) → add nil a ≡ a
  nil_add a = add_comm nil a ∙ add_nil a

  pub neg_add : (a : K) → add (neg a) a ≡ nil
  neg_add a = add_comm (neg a) a ∙ add_neg a

  pub add_left_comm : (a b c : K) → add a (add b c) ≡ add b (add a c)
  add_left_comm a b c = sym (add_assoc a b c) ∙ ap (λ x. add x c) (add_comm a b) ∙ add_assoc b a c

  -- the middle two of four change places
  pub add_middle : (a b c d : K) → add (add a b) (add c d) ≡ add (add a c) (add b d)
  add_middle a b c d = add_assoc a b (add c d) ∙ ap (add a) (add_left_comm b c d) ∙ sym (add_assoc a c (add b d))

  pub add_cancel : (a b c : K) → add a c ≡ add b c → a ≡ b
  add_cancel a b c e =
      let drop : (x : K) → add (add x c) (neg c) ≡ x = λ x. add_assoc x c (neg c) ∙ ap (add x) (add_neg c) ∙ add_nil x in
      sym (drop a) ∙ ap (λ x. add x (neg c)) e ∙ drop b

  -- what sums with a to 0 is the opposite of a
  pub neg_is : (a b : K) → add a b ≡ nil → b ≡ neg a
  neg_is a b e = add_cancel b (neg a) a (add_comm b a ∙ e ∙ sym (neg_add a))

  pub mul_nil : (a : K) → mul a nil ≡ nil
  mul_nil a =
      add_cancel (mul a nil) nil (mul a nil) (sym (mul_add a nil nil) ∙ ap (mul a) (add_nil nil) ∙ sym (nil_add (mul a nil)))

  pub nil_mul : (a : K) → mul nil a ≡ nil
  nil_mul a = mul_comm nil a ∙ mul_nil a

  pub one_mul : (a : K) → mul one a ≡ a
  one_mul a = mul_comm one a ∙ mul_one a

  pub add_mul : (a b c : K) → mul (add a b) c ≡ add (mul a c) (mul b c)
  add_mul a b c = mul_comm (add a b) c ∙ mul_add c a b ∙ ap₂ add (mul_comm c a) (mul_comm c b)

  pub mul_left_comm : (a b c : K) → mul a (mul b c) ≡ mul b (mul a c)
  mul_left_comm a b c = sym (mul_assoc a b c) ∙ ap (λ x. mul x c) (mul_comm a b) ∙ mul_assoc b a c

  pub neg_nil : neg nil ≡ nil
  neg_nil = sym (neg_is nil nil (add_nil nil))

  pub neg_neg : (a : K) → neg (neg a) ≡ a
  neg_neg a = sym (neg_is (neg a) a (neg_add a))

  pub neg_of_add : (a b : K) → neg (add a b) ≡ add (neg a) (neg b)
  neg_of_add a b =
      sym (neg_is (add a b) (add (neg a) (neg b)) (add_middle a b (neg a) (neg b) ∙ ap₂ add (add_neg a) (add_neg b) ∙ add_nil nil))

  pub mul_neg : (a b : K) → mul a (neg b) ≡ neg (mul a b)
  mul_neg a b = neg_is (mul a b) (mul a (neg b)) (sym (mul_add a b (neg b)) ∙ ap (mul a) (add_neg b) ∙ mul_nil a)

  pub neg_mul : (a b : K) → mul (neg a) b ≡ neg (mul a b)
  neg_mul a b = mul_comm (neg a) b ∙ mul_neg b a ∙ ap neg (mul_comm b a)

  -- numbers whose difference is 0 are equal
  pub minus_nil : (a b : K) → minus F a b ≡ nil → a ≡ b
  minus_nil a b e = add_cancel a b (neg b) (e ∙ sym (add_neg b))

  -- a number with a reciprocal can be taken off a product
  pub mul_cancel : (a x b c : K) → mul a x ≡ one → mul x b ≡ mul x c → b ≡ c
  mul_cancel a x b c e h =
      let drop : (y : K) → mul a (mul x y) ≡ y = λ y. sym (mul_assoc a x y) ∙ ap (λ z. mul z y) e ∙ one_mul y in
      sym (drop b) ∙ ap (mul a) h ∙ drop c
