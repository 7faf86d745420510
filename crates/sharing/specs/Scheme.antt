-- The sharing scheme: a plan, the store of a deal, its words, its cards. Assumes nothing.
--   Plan      the threshold t, the number n of cards and the n − t given rows, one after the other
--   plan_of   the plan of given t, n and rows
--   lanes     b, how many numbers a piece of a key of L numbers has: L / t rounded up
--   padded    a key with zeros at its end up to t × b numbers
--   Codes     every number of a list is a code of the field
--   Key, Dummies, Deal   what a key of L numbers, the t − 1 dummy keys and a deal of length L are
--   store     what a deal stores: the padded key, then the dummy keys
--   stored    number e of piece p of block i of a store; block 0 is the padded key, block i is dummy key i
--   word      word i of lane e: word 0 is the key's word plus all dummy words, word i is that of dummy key i
--   card      card j (its share): row by row, lane by lane, the number of word i's cast at place (j + i) mod n
use Rattle.std.specs.Prelude.{◌≡◌, ℕ, ◌+◌, ◌-◌, ◌*◌, ◌/◌, ◌%◌, ◌<◌, ◌≤◌, cond, List, ◌++◌, map, length, replicate, ◌==◌, slice_index}
use Rattle.std.specs.List.{range_with_len}
use Rattle.field.specs.Codes.{Operations, sum}
use Rattle.linear.specs.Casting.{cast}

pub record Plan : Type 0 where
  pub t : ℕ
  pub n : ℕ
  pub rows : List ℕ

abbrev pub plan_of : (t n : ℕ) → List ℕ → Plan
plan_of t n rows = record { t = t; n = n; rows = rows }

abbrev pub lanes : (t L : ℕ) → ℕ
lanes t L = (L + (t - 1)) / t

abbrev pub padded : (t L : ℕ) → List ℕ → List ℕ
padded t L key = key ++ replicate (t * lanes t L - L) 0

abbrev pub Codes : Operations → List ℕ → Type 0
Codes o xs = (i : ℕ) → i < length xs → slice_index xs i < o.size

-- a plan whose t and n are within limits, and whose rows are codes, n − t times t of them
pub record Sound (o : Operations) (p : Plan) : Type 0 where
  pub least : 2 ≤ p.t
  pub ordered : p.t ≤ p.n
  pub most : p.n ≤ 8
  pub long : length p.rows ≡ (p.n - p.t) * p.t
  pub codes : Codes o p.rows

abbrev pub Key : Operations → (L : ℕ) → List ℕ → Type 0
Key o L key = (length key ≡ L) × Codes o key

abbrev pub Dummies : Operations → (t L : ℕ) → List ℕ → Type 0
Dummies o t L dummies = (length dummies ≡ (t - 1) * (t * lanes t L)) × Codes o dummies

-- a deal of length L, L from 1 to 64
pub record Deal (o : Operations) (p : Plan) (L : ℕ) (key dummies : List ℕ) : Type 0 where
  pub some : 1 ≤ L
  pub most : L ≤ 64
  pub key_of : Key o L key
  pub dummies_of : Dummies o p.t L dummies

abbrev pub store : (t L : ℕ) → (key dummies : List ℕ) → List ℕ
store t L key dummies = padded t L key ++ dummies

abbrev pub stored : (t b : ℕ) → List ℕ → (i p e : ℕ) → ℕ
stored t b s i p e = slice_index s ((i * t + p) * b + e)

abbrev pub word : Operations → (t b : ℕ) → List ℕ → (i e p : ℕ) → ℕ
word o t b s i e p = cond (i == 0) (sum o t (λ k. stored t b s k p e)) (stored t b s i p e)

abbrev pub card : Operations → Plan → (b : ℕ) → List ℕ → (j : ℕ) → List ℕ
card o p b s j =
    map (λ x. cast o p.t p.rows (word o p.t b s (x / b) (x % b)) ((j + x / b) % p.n)) (range_with_len 0 (p.t * b))
