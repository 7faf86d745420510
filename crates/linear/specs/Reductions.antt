-- What row reduction of a matrix leaves. Assumes nothing.
-- The matrix stands row by row in a list; its first columns, as many as there are rows, are the coefficients of a system,
-- and each column after them is a right side.
--   Matrix    a list is such a matrix of codes
--   Kept      what a reduction of the first k columns leaves as it was, and what it makes
--   Solved    every column has a pivot: each right side has given way to its solution
--   Stuck     column k is the first without a pivot
--   Reduced   what row reduction answers and leaves
use Rattle.std.specs.Prelude.{◌≡◌, ℕ, ◌*◌, ◌<◌, ◌≤◌, cond, List, length, Ok, Err, Result, ◌==◌, slice_index}
use Rattle.field.specs.Codes.{Operations}
use Rattle.linear.specs.Pivots.{entry}
use Rattle.linear.specs.Systems.{times, Solves, Regular, Null}
use Rattle.linear.specs.declared.reduction.Unreduced.{Unreduced}
use Rattle.linear.specs.declared.reduction.Unreduced.TheVariants.{NoMatrix, NoPivot}

-- s is a matrix of codes of n rows and w columns, at least as many as rows
pub record Matrix (o : Operations) (n w : ℕ) (s : List ℕ) : Type 0 where
  pub square : n ≤ w
  pub size : length s ≡ n * w
  pub codes : (i : ℕ) → i < length s → slice_index s i < o.size

-- the rows of s send a vector of w numbers to zero
abbrev pub Vanishes : Operations → ℕ → ℕ → List ℕ → (ℕ → ℕ) → Type 0
Vanishes o n w s v = (r : ℕ) → r < n → times o w (entry w s) v r ≡ 0

-- the first k columns of t are unit columns, and the rows of t send to zero exactly the vectors that the rows of s do
pub record Kept (o : Operations) (n w k : ℕ) (s t : List ℕ) : Type 0 where
  pub matrix : Matrix o n w t
  pub units : (r c : ℕ) → r < n → c < k → entry w t r c ≡ cond (c == r) 1 0
  pub onto : (v : ℕ → ℕ) → Vanishes o n w s v → Vanishes o n w t v
  pub back : (v : ℕ → ℕ) → Vanishes o n w t v → Vanishes o n w s v

-- every right side has exactly one solution, and in t each right side of s has given way to its solution
pub record Solved (o : Operations) (n w : ℕ) (s t : List ℕ) : Type 0 where
  pub regular : Regular o n (entry w s)
  pub solutions : (j : ℕ) → n ≤ j → j < w → Solves o n (entry w s) (λ r. entry w s r j) (λ r. entry w t r j)

-- some vector with 1 at k and 0 after it is sent to zero, and of the vectors that are 0 from k on only zero is
pub record Stuck (o : Operations) (n w k : ℕ) (s : List ℕ) : Type 0 where
  pub within : k < n
  pub vector : ℕ → ℕ
  pub null : Null o n (entry w s) vector
  pub one : vector k ≡ 1
  pub after : (c : ℕ) → k < c → vector c ≡ 0
  pub first : (v : ℕ → ℕ) → Null o n (entry w s) v → ((c : ℕ) → k ≤ c → c < n → v c ≡ 0) → (c : ℕ) → c < n → v c ≡ 0

-- what row reduction of s answers, and t that it leaves
abbrev pub Reduced : Operations → ℕ → ℕ → List ℕ → List ℕ → Result (Unit {0}) Unreduced → Type 0
Reduced o n w s t (Ok _) = Matrix o n w s × Kept o n w n s t × Solved o n w s t
Reduced o n w s t (Err NoMatrix) = (Matrix o n w s → ⊥) × (t ≡ s)
Reduced o n w s t (Err (NoPivot k)) = Matrix o n w s × Kept o n w k s t × Stuck o n w k s
