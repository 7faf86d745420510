-- A finite field whose numbers are written as codes, the laws that it keeps, and sums over it. Assumes nothing.
--   Operations   a field's mark, its size q and its operations on codes
--   Laws         what makes the operations those of a field
--   minus        a plus the opposite of b
--   inverse      the reciprocal: the code whose product with a is 1, or none
--   sum          f 0 + f 1 + .. + f (k − 1)
use Rattle.std.specs.Prelude.{◌≡◌, ℕ, zero, suc, ◌<◌, ◌≤◌, Bool, cond, ◌≢◌, Some, None, Option, nat_eq}

-- the operations answer for every number, so that what is said of them is said of every byte
pub record Operations : Type 0 where
  -- the byte that names the field in a line of text
  pub mark : ℕ
  -- q: the codes are 0 to q − 1
  pub size : ℕ
  pub add : ℕ → ℕ → ℕ
  pub neg : ℕ → ℕ
  pub mul : ℕ → ℕ → ℕ

pub record Laws (o : Operations) : Type 0 where
  pub mark_byte : o.mark < 256
  pub size_least : 16 ≤ o.size
  pub size_most : o.size ≤ 256
  -- every answer is a code
  pub add_code : (a b : ℕ) → o.add a b < o.size
  pub neg_code : (a : ℕ) → o.neg a < o.size
  pub mul_code : (a b : ℕ) → o.mul a b < o.size
  -- of what is no code the answer is 0
  pub add_outside : (a b : ℕ) → o.size ≤ a → o.add a b ≡ 0
  pub neg_outside : (a : ℕ) → o.size ≤ a → o.neg a ≡ 0
  pub mul_outside : (a b : ℕ) → o.size ≤ a → o.mul a b ≡ 0
  -- sum and product are commutative and associative, and product distributes over sum
  pub add_comm : (a b : ℕ) → o.add a b ≡ o.add b a
  pub mul_comm : (a b : ℕ) → o.mul a b ≡ o.mul b a
  pub add_assoc : (a b c : ℕ) → a < o.size → b < o.size → c < o.size → o.add (o.add a b) c ≡ o.add a (o.add b c)
  pub mul_assoc : (a b c : ℕ) → a < o.size → b < o.size → c < o.size → o.mul (o.mul a b) c ≡ o.mul a (o.mul b c)
  pub mul_add : (a b c : ℕ) → a < o.size → b < o.size → c < o.size → o.mul a (o.add b c) ≡ o.add (o.mul a b) (o.mul a c)
  -- code 0 is neutral for sum, code 1 for product
  pub add_zero : (a : ℕ) → a < o.size → o.add a 0 ≡ a
  pub mul_one : (a : ℕ) → a < o.size → o.mul a 1 ≡ a
  -- a number and its opposite sum to 0
  pub add_neg : (a : ℕ) → a < o.size → o.add a (o.neg a) ≡ 0
  -- a number other than 0 has a reciprocal
  pub mul_inverse : (a : ℕ) → a < o.size → a ≢ 0 → (x : ℕ) × (x < o.size) × (o.mul a x ≡ 1)

-- a minus b is a plus the opposite of b
abbrev pub minus : Operations → ℕ → ℕ → ℕ
minus o a b = o.add a (o.neg b)

-- the first code below k that passes the test, or none
unfoldable pub first : (ℕ → Bool) → ℕ → Option ℕ
first test zero = None
first test (suc k) = elim (first test k) [ Some x ↦ Some x | None ↦ cond (test k) (Some k) None ]

-- the reciprocal of a: the code whose product with a is 1, or none
unfoldable pub inverse : Operations → ℕ → Option ℕ
inverse o a = first (λ x. nat_eq (o.mul a x) 1) o.size

-- f 0 + f 1 + .. + f (k − 1), from code 0
unfoldable pub sum : Operations → ℕ → (ℕ → ℕ) → ℕ
sum o zero f = 0
sum o (suc k) f = o.add (sum o k f) (f k)
