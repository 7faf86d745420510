-- The words behind the data of t cards, and the key behind the words. Assumes nothing.
--   card_number   number e of row i in the data of the m-th card
--   Given         words that give the cards the data that were handed in
--   key_number    number p of the key's word in lane e: word 0 minus all the other words
--   opened        the padded key, piece by piece, lane by lane
--   first_loose   the place of the first number of the padding that is not zero
use Rattle.std.specs.Prelude.{◌≡◌, ℕ, ◌+◌, ◌-◌, ◌*◌, ◌/◌, ◌%◌, ◌<◌, not, ◌&&◌, List, map, length, Option, ◌==◌, nat_lt, slice_index, slice_index_or}
use Rattle.std.specs.List.{range_with_len}
use Rattle.field.specs.Codes.{Operations, first, minus, sum}
use Rattle.linear.specs.Casting.{cast}
use Rattle.sharing.specs.Scheme.{Plan}

abbrev pub card_number : (t b : ℕ) → List ℕ → (m i e : ℕ) → ℕ
card_number t b «data» m i e = slice_index_or «data» (m * (t * b) + (i * b + e)) 0

-- x i e p is number p of word i of lane e; cards holds the cards' numbers in the order of their data
pub record Given (o : Operations) (p : Plan) (b : ℕ) (cards «data» : List ℕ) (x : (i e c : ℕ) → ℕ) : Type 0 where
  pub codes : (i e c : ℕ) → i < p.t → e < b → c < p.t → x i e c < o.size
  pub numbers : (m i e : ℕ) → m < p.t → i < p.t → e < b
      → cast o p.t p.rows (x i e) ((slice_index cards m + i) % p.n) ≡ card_number p.t b «data» m i e

abbrev pub key_number : Operations → (t : ℕ) → (x : (i e c : ℕ) → ℕ) → (e c : ℕ) → ℕ
key_number o t x e c = minus o (x 0 e c) (sum o (t - 1) (λ i. x (i + 1) e c))

abbrev pub opened : Operations → (t b : ℕ) → (x : (i e c : ℕ) → ℕ) → List ℕ
opened o t b x = map (λ y. key_number o t x (y % b) (y / b)) (range_with_len 0 (t * b))

abbrev pub first_loose : (L : ℕ) → List ℕ → Option ℕ
first_loose L key = first (λ i. not (nat_lt i L) && not (slice_index key i == 0)) (length key)
