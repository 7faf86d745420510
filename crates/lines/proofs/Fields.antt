-- Fields behind spaces: what `spaced` and `shaped` say of lengths and places. Assumes nothing.
use Rattle.std.proofs.Common.{◌≡◌, ℕ, ◌+◌, ◌≤◌, true, eqb, leb, List, [], ◌∷◌, length, arith}
use Rattle.std.specs.List.{prefix_len}
use Rattle.std.proofs.lemmas.List.Sums.{prefix_len-le-length}
use Rattle.std.proofs.lemmas.Bool.{and_parts, leb-true, false≢true}
use Rattle.lines.specs.Digits.{is_digit, space}
use Rattle.lines.specs.Shapes.{spaced}

-- a space and k digits are k + 1 bytes
pub spaced_room : (k : ℕ) (xs : List ℕ) → spaced k xs ≡ true → 1 + k ≤ length xs
spaced_room k [] e = absurd (false≢true e)
spaced_room k (x ∷ xs) e =
    let h = leb-true k (prefix_len is_digit xs) (and_parts (eqb x space) (leb k (prefix_len is_digit xs)) e).1 in
    omega (arith, prefix_len-le-length is_digit xs)
