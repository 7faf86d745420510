-- A matrix that stands row by row in a list, and one step of its row reduction. Assumes nothing.
--   entry      the number in row r and column c
--   past       one number before a column, another from it on
--   swapped    where row r comes from when two rows change places
--   Swapped, Scaled, Added, cleared
--              what the row operations leave: rows exchanged, scaled, added, a column cleared
--   Pivotless  column k has no pivot: zeros from row k on
--   First      where the first pivot of column k stands, if there is one
--   stepped    the number in row r and column c after a pivot's step
--   Stepped    a pivot's step on column k
use Rattle.std.specs.Prelude.{◌≡◌, ℕ, ◌+◌, ◌*◌, ◌<◌, ◌≤◌, cond, ◌≢◌, List, Some, None, Option, ◌==◌, nat_lt, slice_index}
use Rattle.field.specs.Codes.{Operations}

-- the number in row r and column c, where a row has w numbers
abbrev pub entry : ℕ → List ℕ → ℕ → ℕ → ℕ
entry w s r c = slice_index s (r * w + c)

-- the old number in the columns before k, the new one from column k on
abbrev pub past : ℕ → ℕ → ℕ → ℕ → ℕ
past k c old new = cond (nat_lt c k) old new

-- where row r comes from when rows k and p change places
abbrev pub swapped : ℕ → ℕ → ℕ → ℕ
swapped k p r = cond (r == k) p (cond (r == p) k r)

-- s with rows k and p exchanged, from column k on
abbrev pub Swapped : ℕ → ℕ → ℕ → List ℕ → List ℕ → Type 0
Swapped w k p s t = (r c : ℕ) → c < w → entry w t r c ≡ past k c (entry w s r c) (entry w s (swapped k p r) c)

-- s with row k multiplied by d, from column k on
abbrev pub Scaled : Operations → ℕ → ℕ → ℕ → List ℕ → List ℕ → Type 0
Scaled o w k d s t =
    (r c : ℕ) → c < w → entry w t r c ≡ past k c (entry w s r c) (cond (r == k) (o.mul d (entry w s r c)) (entry w s r c))

-- s with d times row k added to row q, from column k on
abbrev pub Added : Operations → ℕ → ℕ → ℕ → ℕ → List ℕ → List ℕ → Type 0
Added o w k q d s t =
    (r c : ℕ) → c < w
    → entry w t r c ≡ past k c (entry w s r c) (cond (r == q) (o.add (entry w s r c) (o.mul d (entry w s k c))) (entry w s r c))

-- the number of row r and column c once row k, whose number in column k is 1, has cleared column k in row r
abbrev pub cleared : Operations → ℕ → ℕ → List ℕ → ℕ → ℕ → ℕ
cleared o w k s r c =
    past k c (entry w s r c)
    (cond (r == k) (entry w s r c) (o.add (entry w s r c) (o.mul (o.neg (entry w s r k)) (entry w s k c))))

-- column k of s holds zeros from row k on
abbrev pub Pivotless : ℕ → ℕ → ℕ → List ℕ → Type 0
Pivotless n w k s = (r : ℕ) → k ≤ r → r < n → entry w s r k ≡ 0

-- where the first number other than 0 of column k stands, from row k on: its row, and its place in s
abbrev pub First : ℕ → ℕ → ℕ → List ℕ → Option (ℕ × ℕ) → Type 0
First n w k s None = Pivotless n w k s
First n w k s (Some p) =
    (k ≤ p.0) × (p.0 < n) × (p.1 ≡ p.0 * w + k) × (slice_index s p.1 ≢ 0) × ((r : ℕ) → k ≤ r → r < p.0 → entry w s r k ≡ 0)

-- the number in row r and column c once row p has been brought to row k and multiplied by d, and column k has been
-- cleared in every other row
abbrev pub stepped : Operations → ℕ → ℕ → ℕ → ℕ → List ℕ → ℕ → ℕ → ℕ
stepped o w k p d s r c =
    let from = swapped k p r in
    let scaled = o.mul d (entry w s p c) in
    past k c (entry w s r c) (cond (r == k) scaled (o.add (entry w s from c) (o.mul (o.neg (entry w s from k)) scaled)))

-- t is s after a pivot's step on column k: the pivot stands in some row from k on, and is multiplied to 1 by its reciprocal
pub record Stepped (o : Operations) (n w k : ℕ) (s t : List ℕ) : Type 0 where
  pub row : ℕ
  pub reciprocal : ℕ
  pub from : k ≤ row
  pub below : row < n
  pub code : reciprocal < o.size
  pub product : o.mul (entry w s row k) reciprocal ≡ 1
  pub entries : (r c : ℕ) → r < n → c < w → entry w t r c ≡ stepped o w k row reciprocal s r c
