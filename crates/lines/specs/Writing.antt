-- What writing gives: the text of a line's numbers. Assumes nothing.
use Rattle.std.specs.Prelude.{ℕ, cond, List, [], ◌∷◌, ◌++◌}
use Rattle.lines.specs.Digits.{hex, wide, space, newline}
use Rattle.lines.specs.Kinds.{kind_number, widths, has_data}
use Rattle.lines.specs.Lines.{Content}
use Rattle.lines.specs.declared.kind.Kind.{Kind}

-- each number in a field of its width, behind a space
abbrev pub fields_text : List ℕ → List ℕ → List ℕ
fields_text [] vs = []
fields_text (w ∷ ws) [] = []
fields_text (w ∷ ws) (v ∷ vs) = space ∷ (hex (wide w v) ++ fields_text ws vs)

-- the data of a kind that has any, behind a space
abbrev pub data_text : Kind → List ℕ → List ℕ
data_text k ns = cond (has_data k) (space ∷ hex ns) []

-- the line of these numbers, with the byte that closes it
abbrev pub written : Content → List ℕ
written c = hex (kind_number c.kind ∷ []) ++ (fields_text (widths c.kind) c.fields ++ (data_text c.kind c.numbers ++ (newline ∷ [])))
