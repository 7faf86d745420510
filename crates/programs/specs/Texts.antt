-- Texts of several lines: what they are when they are written one after the other, and where one of them is at fault.
-- Assumes nothing.
--   text_of      the text of some lines
--   data_line    a line that has only data
--   plan_line, key_line, card_line, refusal_line   the other lines
--   known_marks  the marks of the fields that there are
--   parts        the first numbers of a list, cut into so many parts of one length
--   Block        the text begins with so many lines of one kind
--   Broken       the text begins with some lines of a block, and the next line of it is at fault
--   PlanHead, KeyHead   the text begins with a plan line, with a key line
--   WantsPlan    a plan line is wanted
--   NoPlan       the text does not begin with a plan line
--   Plain        a row or a dummy key is wanted
--   width        how many numbers such a line has
use Rattle.std.specs.Prelude.{◌≡◌, ℕ, zero, suc, ◌*◌, ◌^◌, ◌<◌, ◌≤◌, true, List, [], ◌∷◌, ◌++◌, map, length, take, drop, Err}
use Rattle.std.specs.Int.Digits.{AllBelowBase}
use Rattle.field.specs.Known.{operations}
use Rattle.field.specs.declared.known.Known.{Known}
use Rattle.field.specs.declared.known.Known.TheVariants.{Bytes, Modulo97}
use Rattle.lines.specs.Lines.{Content, kind_of, padded, planned, reading}
use Rattle.lines.specs.Writing.{written}
use Rattle.lines.specs.declared.fault.Fault.{Fault}
use Rattle.lines.specs.declared.kind.Kind.{Kind}
use Rattle.lines.specs.declared.kind.Kind.TheVariants as kind
use Rattle.lines.specs.declared.wanted.Wanted.{Wanted}
use Rattle.lines.specs.declared.wanted.Wanted.TheVariants as wanted

abbrev pub text_of : List Content → List ℕ
text_of [] = []
text_of (c ∷ cs) = written c ++ text_of cs

abbrev pub data_line : Kind → List ℕ → Content
data_line k numbers = record { kind = k; fields = []; numbers = numbers }

abbrev pub plan_line : (mark t n : ℕ) → Content
plan_line mark t n = record { kind = kind.Plan; fields = mark ∷ t ∷ n ∷ []; numbers = [] }

abbrev pub key_line : (mark : ℕ) → List ℕ → Content
key_line mark numbers = record { kind = kind.Key; fields = mark ∷ []; numbers = numbers }

abbrev pub card_line : (field mark t n j L : ℕ) → List ℕ → Content
card_line field mark t n j L numbers = record { kind = kind.Card; fields = field ∷ mark ∷ t ∷ n ∷ j ∷ L ∷ []; numbers = numbers }

abbrev pub refusal_line : (number carries line : ℕ) → Content
refusal_line number carries line = record { kind = kind.Refusal; fields = number ∷ carries ∷ line ∷ []; numbers = [] }

abbrev pub known_marks : List ℕ
known_marks = (operations Bytes).mark ∷ (operations Modulo97).mark ∷ []

abbrev pub parts : (k w : ℕ) → List ℕ → List (List ℕ)
parts zero w xs = []
parts (suc k) w xs = take w xs ∷ parts k w (drop w xs)

-- k lines of a kind, w bytes each, xs in all, and then the rest
pub record Block (kind : Kind) (w k : ℕ) (text xs rest : List ℕ) : Type 0 where
  pub bytes : AllBelowBase 256 xs
  pub long : length xs ≡ k * w
  pub is : text ≡ text_of (map (data_line kind) (parts k w xs)) ++ rest

abbrev pub Plain : Wanted → Type 0
Plain (wanted.Plan marks) = ⊥
Plain (wanted.Row t) = Unit {0}
Plain (wanted.Card mark) = ⊥
Plain wanted.Key = ⊥
Plain (wanted.Dummy t l) = Unit {0}

abbrev pub width : Wanted → ℕ
width (wanted.Plan marks) = 0
width (wanted.Row t) = t
width (wanted.Card mark) = 0
width wanted.Key = 0
width (wanted.Dummy t l) = padded t l

-- k lines as they are wanted, of more that are wanted, and then a line that is at fault
pub record Broken (want : Wanted) (more k : ℕ) (text : List ℕ) (fault : Fault) : Type 0 where
  pub below : k < more
  pub xs : List ℕ
  pub rest : List ℕ
  pub block : Block (kind_of want) (width want) k text xs rest
  pub breaks : reading want rest ≡ Err fault

-- a plan line of one of the fields, t and n within limits, and then the rest
pub record PlanHead (known : Known) (t n : ℕ) (text rest : List ℕ) : Type 0 where
  pub limits : planned t n ≡ true
  pub is : text ≡ written (plan_line (operations known).mark t n) ++ rest

-- a plan line of a field that there is, is wanted
abbrev pub WantsPlan : Wanted → Type 0
WantsPlan (wanted.Plan marks) = marks.now ≡ known_marks
WantsPlan (wanted.Row t) = ⊥
WantsPlan (wanted.Card mark) = ⊥
WantsPlan wanted.Key = ⊥
WantsPlan (wanted.Dummy t l) = ⊥

-- the text does not begin with such a line
abbrev pub NoPlan : List ℕ → Fault → Type 0
NoPlan text fault = (want : Wanted) × WantsPlan want × (reading want text ≡ Err fault)

-- a key line, at most 64 numbers, and then the rest
pub record KeyHead (mark : ℕ) (key text rest : List ℕ) : Type 0 where
  pub four : mark < 256 ^ 4
  pub bytes : AllBelowBase 256 key
  pub some : 1 ≤ length key
  pub most : length key ≤ 64
  pub is : text ≡ written (key_line mark key) ++ rest
