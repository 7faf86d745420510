-- Groups of cards, their dictionary order, and how a group is written. Assumes nothing.
--   Group     k card numbers below n, ascending
--   Holds     card j is in the group
--   before    the dictionary order of the ascending numbers
--   bits      the group as a number, bit j for card j
--   FirstBad  the first group of k cards, in dictionary order, that lacks a property
use Rattle.std.specs.Prelude.{◌≡◌, ℕ, ◌+◌, ◌^◌, ◌<◌, ◌⊎◌, List, [], ◌∷◌, length, slice_index}

abbrev pub Group : (n k : ℕ) → List ℕ → Type 0
Group n k g =
    (length g ≡ k)
    × ((i : ℕ) → i < length g → slice_index g i < n)
    × ((i h : ℕ) → i < h → h < length g → slice_index g i < slice_index g h)

abbrev pub Holds : List ℕ → ℕ → Type 0
Holds g j = (i : ℕ) × (i < length g) × (slice_index g i ≡ j)

abbrev pub before : List ℕ → List ℕ → Type 0
before [] [] = ⊥
before [] (y ∷ ys) = Unit {0}
before (x ∷ xs) [] = ⊥
before (x ∷ xs) (y ∷ ys) = (x < y) ⊎ ((x ≡ y) × before xs ys)

abbrev pub bits : List ℕ → ℕ
bits [] = 0
bits (j ∷ g) = 2 ^ j + bits g

pub record FirstBad (Good : List ℕ → Type 0) (n k : ℕ) (g : List ℕ) : Type 0 where
  pub is_group : Group n k g
  pub bad : Good g → ⊥
  pub good_before : (h : List ℕ) → Group n k h → before h g → Good h
