-- Vectors, matrices and systems of equations over a field of codes. Assumes nothing.
-- A vector is a function of its index and a matrix one of row and column; only what stands below the size counts.
--   numbers      the numbers of a list, as a vector
--   Codes        the numbers of a vector are codes
--   dot          the sum of the products of two vectors, number by number
--   times        a row of a matrix times a vector
--   Solves       a vector of codes that a square matrix sends to a right side
--   OneSolution  there is one solution, and no other
--   Regular      every right side has exactly one solution
--   Null         a vector of codes that a square matrix sends to zero
--   Singular     some vector that is not all zero is sent to zero
--   Alternative  every square matrix is regular or singular, and none is both
use Rattle.std.specs.Prelude.{◌≡◌, ℕ, ◌<◌, ◌≢◌, ◌⊎◌, List, slice_index}
use Rattle.field.specs.Codes.{Operations, sum}

-- the numbers of a list as a vector, with 0 past the list's end
abbrev pub numbers : List ℕ → ℕ → ℕ
numbers s i = slice_index s i

-- the first n numbers of a vector are codes
abbrev pub Codes : Operations → ℕ → (ℕ → ℕ) → Type 0
Codes o n v = (i : ℕ) → i < n → v i < o.size

-- the sum over i below n of number i of u times number i of v
abbrev pub dot : Operations → ℕ → (ℕ → ℕ) → (ℕ → ℕ) → ℕ
dot o n u v = sum o n (λ i. o.mul (u i) (v i))

-- row r of a matrix of n columns times a vector
abbrev pub times : Operations → ℕ → (ℕ → ℕ → ℕ) → (ℕ → ℕ) → ℕ → ℕ
times o n a x r = dot o n (a r) x

-- x is a vector of n codes that the n × n matrix a sends to b
pub record Solves (o : Operations) (n : ℕ) (a : ℕ → ℕ → ℕ) (b x : ℕ → ℕ) : Type 0 where
  pub codes : Codes o n x
  pub rows : (r : ℕ) → r < n → times o n a x r ≡ b r

-- there is a solution for b, and any other is equal to it
pub record OneSolution (o : Operations) (n : ℕ) (a : ℕ → ℕ → ℕ) (b : ℕ → ℕ) : Type 0 where
  pub solution : ℕ → ℕ
  pub solves : Solves o n a b solution
  pub only : (y : ℕ → ℕ) → Solves o n a b y → (c : ℕ) → c < n → y c ≡ solution c

-- every right side of codes has exactly one solution
abbrev pub Regular : Operations → ℕ → (ℕ → ℕ → ℕ) → Type 0
Regular o n a = (b : ℕ → ℕ) → Codes o n b → OneSolution o n a b

-- x is sent to zero
abbrev pub Null : Operations → ℕ → (ℕ → ℕ → ℕ) → (ℕ → ℕ) → Type 0
Null o n a x = Solves o n a (λ r. 0) x

-- some vector that is not all zero is sent to zero
pub record Singular (o : Operations) (n : ℕ) (a : ℕ → ℕ → ℕ) : Type 0 where
  pub vector : ℕ → ℕ
  pub null : Null o n a vector
  pub place : ℕ
  pub within : place < n
  pub nonzero : vector place ≢ 0

-- every square matrix is regular or singular, and none is both
pub record Alternative (o : Operations) : Type 0 where
  pub either : (n : ℕ) (a : ℕ → ℕ → ℕ) → Regular o n a ⊎ Singular o n a
  pub not_both : (n : ℕ) (a : ℕ → ℕ → ℕ) → Regular o n a → Singular o n a → ⊥
