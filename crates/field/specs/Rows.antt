-- The rows of a plan that are given, and Cauchy rows, the ones that we draft ourselves ("house rows"). Assumes nothing.
--   within        t and n are within the limits of a plan
--   shape         the table of what can be wrong with t, n and how many numbers the rows have
--   cauchy        the number of a Cauchy row c at place p: the reciprocal of code c minus code p
--   cauchy_rows   the rows t to n − 1, one after the other
--   Reciprocals   each number of the rows, times code c minus code p, is 1
use Rattle.std.specs.Prelude.{◌≡◌, ℕ, ◌+◌, ◌-◌, ◌*◌, ◌/◌, ◌%◌, ◌<◌, ◌≤◌, Bool, not, ◌&&◌, List, [], ◌∷◌, map, ◌==◌, nat_le, slice_index}
use Rattle.std.specs.List.{range_with_len}
use Rattle.std.specs.Option.{unwrap_or}
use Rattle.field.specs.Codes.{Operations, minus, inverse}
use Rattle.field.specs.Refusals.{Rule}

-- 2 ≤ t ≤ n ≤ 8
abbrev pub within : (t n : ℕ) → Bool
within t n = nat_le 2 t && (nat_le t n && nat_le n 8)

abbrev pub shape : (t n numbers : ℕ) → List Rule
shape t n numbers = (0x10, not (within t n), 0) ∷ (0x11, not (numbers == (n - t) * t), 0) ∷ []

abbrev pub cauchy : Operations → (c p : ℕ) → ℕ
cauchy o c p = unwrap_or (inverse o (minus o c p)) 0

abbrev pub cauchy_rows : Operations → (t n : ℕ) → List ℕ
cauchy_rows o t n = map (λ i. cauchy o (t + i / t) (i % t)) (range_with_len 0 ((n - t) * t))

abbrev pub Reciprocals : Operations → (t n : ℕ) → List ℕ → Type 0
Reciprocals o t n rows = (c p : ℕ) → t ≤ c → c < n → p < t → o.mul (slice_index rows ((c - t) * t + p)) (minus o c p) ≡ 1
