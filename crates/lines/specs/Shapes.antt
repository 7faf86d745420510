-- The shape of a line after its kind: fields of given widths, each behind one space, then data. Assumes nothing.
use Rattle.std.specs.Prelude.{ℕ, ◌+◌, ◌-◌, ◌*◌, ◌%◌, Bool, true, false, ◌&&◌, List, [], ◌∷◌, length, take, drop, ◌==◌, nat_le, nat_lt, slice_index}
use Rattle.std.specs.List.{prefix_len}
use Rattle.lines.specs.Digits.{is_digit, space, spelled, numeral}

-- the text begins with a space and k digits
abbrev pub spaced : ℕ → List ℕ → Bool
spaced k text = slice_index text 0 == space && nat_le k (prefix_len is_digit (drop 1 text))

-- the text is exactly this: a field of each width, then data if there is any, an even number of digits and not none
abbrev pub shaped : List ℕ → Bool → List ℕ → Bool
shaped (w ∷ ws) d text = spaced (2 * w) text && shaped ws d (drop (1 + 2 * w) text)
shaped [] false text = length text == 0
shaped [] true text = spaced (length text - 1) text && (nat_lt 1 (length text) && length text % 2 == 1)

-- how far the fields of these widths reach
abbrev pub reach : List ℕ → ℕ
reach [] = 0
reach (w ∷ ws) = 1 + 2 * w + reach ws

-- the numbers in the fields of these widths
abbrev pub values : List ℕ → List ℕ → List ℕ
values [] text = []
values (w ∷ ws) text = numeral (spelled (take (2 * w) (drop 1 text))) ∷ values ws (drop (1 + 2 * w) text)
