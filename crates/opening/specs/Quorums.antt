-- What the inner steps of an opening leave behind. Assumes nothing.
--   Gathered    cards that are to open a key, with their plan
--   Fits        they are t different cards of a sound plan, with data of codes
--   system      row i of the cards as a system: the plan's rows, and beside them the lanes' numbers
--   Solved      the system of row i is solved, and its solutions stand in a matrix
--   signed      what word i adds to the key: word 0 itself, the others their opposite
--   Summed      the words of the first rows are found, and what they add to the key has been summed
use Rattle.std.specs.Prelude.{◌≡◌, ℕ, ◌+◌, ◌-◌, ◌*◌, ◌/◌, ◌%◌, ◌<◌, ◌≤◌, cond, List, length, ◌==◌, nat_lt, slice_index}
use Rattle.field.specs.Codes.{Operations, sum}
use Rattle.linear.specs.Pivots.{entry}
use Rattle.linear.specs.Systems.{Solves, Regular}
use Rattle.sharing.specs.Scheme.{Plan, Sound, Codes}
use Rattle.sharing.specs.Systems.{opening_matrix}
use Rattle.opening.specs.Answers.{Different}
use Rattle.opening.specs.Words.{card_number}

pub record Gathered : Type 0 where
  pub plan : Plan
  -- the cards' numbers
  pub numbers : List ℕ
  -- the cards' data, one after the other in the order of the numbers
  pub «data» : List ℕ
  -- b, how many numbers a piece of the key has
  pub lanes : ℕ

pub record Fits (o : Operations) (q : Gathered) : Type 0 where
  pub sound : Sound o q.plan
  pub count : length q.numbers ≡ q.plan.t
  pub below : (i : ℕ) → i < length q.numbers → slice_index q.numbers i < q.plan.n
  pub different : Different q.numbers
  pub some : 1 ≤ q.lanes
  pub few : q.lanes ≤ 64
  pub long : length q.«data» ≡ q.plan.t * (q.plan.t * q.lanes)
  pub codes : Codes o q.«data»

abbrev pub system : Gathered → (i m c : ℕ) → ℕ
system q i m c =
    cond (nat_lt c q.plan.t) (opening_matrix q.plan q.numbers i m c)
    (card_number q.plan.t q.lanes q.«data» m i (c - q.plan.t))

-- the matrix has t + b columns, and the solution for lane e stands in column t + e
pub record Solved (o : Operations) (q : Gathered) (i : ℕ) (matrix : List ℕ) : Type 0 where
  pub regular : Regular o q.plan.t (opening_matrix q.plan q.numbers i)
  pub words : (e : ℕ) → e < q.lanes
      → Solves o q.plan.t (opening_matrix q.plan q.numbers i) (λ m. card_number q.plan.t q.lanes q.«data» m i e)
      (λ c. entry (q.plan.t + q.lanes) matrix c (q.plan.t + e))

abbrev pub signed : Operations → (i number : ℕ) → ℕ
signed o i number = cond (i == 0) number (o.neg number)

pub record Summed (o : Operations) (q : Gathered) (rows : ℕ) (sums : List ℕ) : Type 0 where
  pub words : (i e c : ℕ) → ℕ
  pub regular : (i : ℕ) → i < rows → Regular o q.plan.t (opening_matrix q.plan q.numbers i)
  pub solved : (i e : ℕ) → i < rows → e < q.lanes
      → Solves o q.plan.t (opening_matrix q.plan q.numbers i) (λ m. card_number q.plan.t q.lanes q.«data» m i e)
      (words i e)
  pub added : (y : ℕ) → y < q.plan.t * q.lanes
      → slice_index sums y ≡ sum o rows (λ i. signed o i (words i (y % q.lanes) (y / q.lanes)))
