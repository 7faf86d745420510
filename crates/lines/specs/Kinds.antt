-- The kinds of line: number, fields and data of each, in one table. Assumes nothing.
use Rattle.std.specs.Prelude.{ℕ, Bool, true, false, List, [], ◌∷◌}
use Rattle.lines.specs.declared.kind.Kind.{Kind}
use Rattle.lines.specs.declared.kind.Kind.TheVariants.{Plan, Row, Card, Key, Dummy, Refusal}

-- how many bytes a deal's mark has
abbrev pub mark_bytes : ℕ
mark_bytes = 4

-- the byte that a line of the kind begins with
abbrev pub kind_number : Kind → ℕ
kind_number Plan = 0x01
kind_number Row = 0x02
kind_number Card = 0x03
kind_number Key = 0x04
kind_number Dummy = 0x05
kind_number Refusal = 0x0F

-- how many bytes each field of the kind has, in order, its data left out.
-- Plan: field mark, t, n. Card: field mark, deal mark, t, n, card number, L. Key: deal mark.
-- Refusal: refusal number, what it carries, line number
abbrev pub widths : Kind → List ℕ
widths Plan = 1 ∷ 1 ∷ 1 ∷ []
widths Row = []
widths Card = 1 ∷ mark_bytes ∷ 1 ∷ 1 ∷ 1 ∷ 1 ∷ []
widths Key = mark_bytes ∷ []
widths Dummy = []
widths Refusal = 1 ∷ 2 ∷ 2 ∷ []

-- whether data follows these fields
abbrev pub has_data : Kind → Bool
has_data Plan = false
has_data Row = true
has_data Card = true
has_data Key = true
has_data Dummy = true
has_data Refusal = false
