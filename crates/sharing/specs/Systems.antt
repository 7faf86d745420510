-- The square systems of linear equations behind opening and hiding, and what they decide. Assumes nothing.
--   OnlyZero        a square matrix sends no vector but zero to zero
--   laid_out        a square matrix as a list, row by row
--   opening_matrix  row i of the cards as equations in its word: one equation for each card of the group
--   hiding_entry    what number c of dummy key k + 1 is multiplied by in row i of the group's m-th card
--   lane_size       how many dummy numbers a lane has: t for each of the t − 1 dummy keys
--   hiding_matrix   the cards of a group as equations in the dummy numbers of a lane
--   OpensExactly    a group of t cards opens exactly if each of its opening matrices has no null vector but zero
--   HidesExactly    a group of t − 1 cards hides exactly if its hiding matrix has no null vector but zero;
--                   then each right side has exactly one solution
use Rattle.std.specs.Prelude.{◌≡◌, ℕ, ◌+◌, ◌-◌, ◌*◌, ◌/◌, ◌%◌, ◌<◌, cond, ◌||◌, ◌↔◌, List, map, ◌==◌, slice_index}
use Rattle.std.specs.List.{range_with_len}
use Rattle.field.specs.Codes.{Operations}
use Rattle.linear.specs.Casting.{row}
use Rattle.linear.specs.Systems.{Null, Regular}
use Rattle.sharing.specs.Groups.{Group}
use Rattle.sharing.specs.Scheme.{Plan, Sound}
use Rattle.sharing.specs.Secrecy.{Opens, Hides}

abbrev pub OnlyZero : Operations → (size : ℕ) → (ℕ → ℕ → ℕ) → Type 0
OnlyZero o size a = (x : ℕ → ℕ) → Null o size a x → (c : ℕ) → c < size → x c ≡ 0

abbrev pub laid_out : (size : ℕ) → (ℕ → ℕ → ℕ) → List ℕ
laid_out size a = map (λ x. a (x / size) (x % size)) (range_with_len 0 (size * size))

-- equation m: row (j + i) mod n of the plan, where j is the group's m-th card
abbrev pub opening_matrix : Plan → List ℕ → (i m c : ℕ) → ℕ
opening_matrix p g i m c = row p.t p.rows ((slice_index g m + i) % p.n) c

-- every dummy key is in row 0, and dummy key k + 1 in row k + 1 too
abbrev pub hiding_entry : Plan → List ℕ → (m i k c : ℕ) → ℕ
hiding_entry p g m i k c = cond (i == 0 || i == k + 1) (opening_matrix p g i m c) 0

abbrev pub lane_size : Plan → ℕ
lane_size p = (p.t - 1) * p.t

-- equation m × t + i: row i of the group's m-th card; unknown k × t + c: number c of dummy key k + 1
abbrev pub hiding_matrix : Plan → List ℕ → (r u : ℕ) → ℕ
hiding_matrix p g r u = hiding_entry p g (r / p.t) (r % p.t) (u / p.t) (u % p.t)

abbrev pub OpensExactly : Operations → Type 0
OpensExactly o =
    (p : Plan) (g : List ℕ) → Sound o p → Group p.n p.t g
    → Opens o p g ↔ ((i : ℕ) → i < p.t → OnlyZero o p.t (opening_matrix p g i))

abbrev pub HidesExactly : Operations → Type 0
HidesExactly o =
    (p : Plan) (g : List ℕ) → Sound o p → Group p.n (p.t - 1) g
    → (Hides o p g ↔ OnlyZero o (lane_size p) (hiding_matrix p g))
    × (Hides o p g → Regular o (lane_size p) (hiding_matrix p g))
