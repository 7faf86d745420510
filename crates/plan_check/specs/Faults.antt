-- What can be wrong with a plan in a field. Every call that takes a plan looks for it first. Assumes nothing.
--   no_code         number i of a list is no code of the field
--   first_no_code   the index of the first such number, or none
--   first_not_zero  the index of the first number, from an index on, that is not zero, or none
--   faults          the table of a plan's faults: limits, how many numbers the rows have, the first that is no code
use Rattle.std.specs.Prelude.{ℕ, Bool, not, ◌&&◌, List, [], ◌∷◌, ◌++◌, length, is_some, Option, ◌==◌, nat_le, nat_lt, slice_index}
use Rattle.std.specs.Option.{unwrap_or}
use Rattle.field.specs.Codes.{Operations, first}
use Rattle.field.specs.Refusals.{Rule}
use Rattle.field.specs.Rows.{shape}
use Rattle.sharing.specs.Scheme.{Plan}

abbrev pub no_code : Operations → List ℕ → ℕ → Bool
no_code o xs i = not (nat_lt (slice_index xs i) o.size)

abbrev pub first_no_code : Operations → List ℕ → Option ℕ
first_no_code o xs = first (no_code o xs) (length xs)

abbrev pub first_not_zero : (from : ℕ) → List ℕ → Option ℕ
first_not_zero from xs = first (λ i. nat_le from i && not (slice_index xs i == 0)) (length xs)

abbrev pub faults : Operations → Plan → List Rule
faults o p =
    shape p.t p.n (length p.rows)
    ++ (0x12, is_some (first_no_code o p.rows), unwrap_or (first_no_code o p.rows) 0) ∷ []
