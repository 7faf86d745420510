-- The values that are written, as the numbers of their lines. Assumes nothing.
use Rattle.std.specs.Prelude.{ℕ, [], ◌∷◌, unwrap_or}
use Rattle.lines.specs.Lines.{Content}
use Rattle.lines.specs.declared.entry.Entry.{Entry}
use Rattle.lines.specs.declared.entry.Entry.TheVariants as entry
use Rattle.lines.specs.declared.kind.Kind.TheVariants as kind

-- what is written for the line number where no line is at fault
abbrev pub no_line : ℕ
no_line = 0xFFFF

-- the numbers of a value's line
abbrev pub entered : Entry → Content
entered (entry.Plan f t n) = record { kind = kind.Plan; fields = f ∷ t ∷ n ∷ []; numbers = [] }
entered (entry.Row d) = record { kind = kind.Row; fields = []; numbers = d.now }
entered (entry.Card f m t n j l d) = record { kind = kind.Card; fields = f ∷ m.number ∷ t ∷ n ∷ j ∷ l ∷ []; numbers = d.now }
entered (entry.Key m d) = record { kind = kind.Key; fields = m.number ∷ []; numbers = d.now }
entered (entry.Dummy d) = record { kind = kind.Dummy; fields = []; numbers = d.now }
entered (entry.Refusal k x l) = record { kind = kind.Refusal; fields = k ∷ x ∷ unwrap_or l no_line ∷ []; numbers = [] }
