-- Lines worked out: what some numbers are written as, and what some texts are read as. Assumes nothing.
use Rattle.std.specs.Prelude.{◌≡◌, ℕ, List, [], ◌∷◌, ◌++◌, Ok, Err, codes, Result}
use Prim.Native.String.{String}
use Rattle.std.specs.List.{AllByRecursion}
use Rattle.lines.specs.Digits.{newline}
use Rattle.lines.specs.Lines.{Content, reading}
use Rattle.lines.specs.Writing.{written}
use Rattle.lines.specs.declared.fault.Fault.{Fault}
use Rattle.lines.specs.declared.fault.Fault.TheVariants as fault
use Rattle.lines.specs.declared.kind.Kind.TheVariants as kind
use Rattle.lines.specs.declared.wanted.Wanted.{Wanted}
use Rattle.lines.specs.declared.wanted.Wanted.TheVariants as wanted

-- a text with the byte that closes it
abbrev pub closed : String → List ℕ
closed s = codes s ++ (newline ∷ [])

-- card 0 of 3, threshold 2, of the deal with mark 42, over the field with mark 1: a key of 2 numbers
abbrev pub first_card : Content
first_card = record { kind = kind.Card; fields = 1 ∷ 42 ∷ 2 ∷ 3 ∷ 0 ∷ 2 ∷ []; numbers = 0xB2 ∷ 0x0B ∷ [] }

-- refusal 16 that carries 5, with no line at fault
abbrev pub refusal : Content
refusal = record { kind = kind.Refusal; fields = 0x16 ∷ 5 ∷ 0xFFFF ∷ []; numbers = [] }

abbrev pub writings : List (Content × List ℕ)
writings =
    (first_card, closed "03 01 0000002A 02 03 00 02 B20B") ∷
    (refusal, closed "0F 16 0005 FFFF") ∷
    (record { kind = kind.Plan; fields = 1 ∷ 2 ∷ 3 ∷ []; numbers = [] }, closed "01 01 02 03") ∷
    (record { kind = kind.Row; fields = []; numbers = 0x8D ∷ 0xF6 ∷ [] }, closed "02 8DF6") ∷
    (record { kind = kind.Key; fields = 42 ∷ []; numbers = 0x12 ∷ 0x34 ∷ [] }, closed "04 0000002A 1234") ∷
    (record { kind = kind.Dummy; fields = []; numbers = 0xA0 ∷ 0x0B ∷ [] }, closed "05 A00B") ∷
    []

abbrev pub readings : List (Wanted × List ℕ × Result Content Fault)
readings =
    (wanted.Card 1, closed "03 01 0000002A 02 03 00 02 B20B", Ok first_card) ∷
    (wanted.Card 2, closed "03 01 0000002A 02 03 00 02 B20B", Err fault.Limits) ∷
    (wanted.Row 2, closed "02 8DF6", Ok (record { kind = kind.Row; fields = []; numbers = 0x8D ∷ 0xF6 ∷ [] })) ∷
    (wanted.Row 3, closed "02 8DF6", Err fault.Length) ∷
    (wanted.Row 2, closed "02 8Df6", Err (fault.Byte 5)) ∷
    (wanted.Row 2, closed "02  8DF6", Err fault.Shape) ∷
    (wanted.Row 2, closed "05 8DF6", Err fault.Unwanted) ∷
    (wanted.Row 2, codes "02 8DF6", Err fault.Absent) ∷
    []

-- each is written so, and each is read so
abbrev pub Worked : Type 0
Worked = AllByRecursion (λ x. written x.0 ≡ x.1) writings × AllByRecursion (λ x. reading x.0 x.1 ≡ x.2) readings
