-- Casting a word: the rows of a plan, and what they make of a word. Assumes nothing.
--   row         the rows of a plan: unit rows first, then those that are given
--   cast        number c of the cast of a word
--   RowsGiven   as many given numbers as a plan's given rows hold
--   Casts       what casting a word answers and leaves
use Rattle.std.specs.Prelude.{◌≡◌, ℕ, ◌+◌, ◌-◌, ◌*◌, ◌<◌, ◌≤◌, cond, List, length, Ok, Err, Result, ◌==◌, nat_lt, slice_index}
use Rattle.field.specs.Codes.{Operations}
use Rattle.linear.specs.Systems.{numbers, dot}
use Rattle.linear.specs.declared.casting.UnfitRows.{UnfitRows}

-- place p of row c: rows below t are unit rows, the others stand one after another in a list, t numbers each
abbrev pub row : ℕ → List ℕ → ℕ → ℕ → ℕ
row t given c p = cond (nat_lt c t) (cond (c == p) 1 0) (slice_index given ((c - t) * t + p))

-- number c of the cast of a word of t numbers: the sum over p of place p of row c times number p of the word
abbrev pub cast : Operations → ℕ → List ℕ → (ℕ → ℕ) → ℕ → ℕ
cast o t given word c = dot o t (row t given c) word

-- as many given numbers as n − t rows of t numbers hold
pub record RowsGiven (given t n : ℕ) : Type 0 where
  pub rows : t ≤ n
  pub numbers : given ≡ (n - t) * t

-- what casting a word answers, and t that stands where s stood: as many numbers of the cast, if the rows are given; else s
abbrev pub Casts : Operations → List ℕ → List ℕ → List ℕ → List ℕ → Result (Unit {0}) UnfitRows → Type 0
Casts o given word s t (Ok _) =
    RowsGiven (length given) (length word) (length s)
    × ((c : ℕ) → c < length s → slice_index t c ≡ cast o (length word) given (numbers word) c)
Casts o given word s t (Err _) = (RowsGiven (length given) (length word) (length s) → ⊥) × (t ≡ s)
