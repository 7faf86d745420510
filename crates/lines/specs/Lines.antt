-- What reading a text gives: the line at its head as numbers, or the first fault that holds. Assumes nothing.
use Rattle.std.specs.Prelude.{◌≡◌, ℕ, ◌+◌, ◌-◌, ◌*◌, ◌/◌, Bool, true, false, cond, not, ◌&&◌, ◌||◌, List, [], ◌∷◌, ◌++◌, length, take, drop, Some, None, Ok, Err, Option, Result, ◌==◌, nat_le, nat_lt, slice_index}
use Rattle.std.specs.List.{prefix_len}
use Rattle.lines.specs.Digits.{is_inline, is_sound, is_digit, spelled, numeral}
use Rattle.lines.specs.Faults.{first}
use Rattle.lines.specs.Kinds.{kind_number, widths, has_data, mark_bytes}
use Rattle.lines.specs.Shapes.{shaped, reach, values}
use Rattle.lines.specs.declared.fault.Fault.{Fault}
use Rattle.lines.specs.declared.fault.Fault.TheVariants.{Absent, Byte, Unwanted, Shape, Limits, Length}
use Rattle.lines.specs.declared.kind.Kind.{Kind}
use Rattle.lines.specs.declared.kind.Kind.TheVariants as kind
use Rattle.lines.specs.declared.line.Line.{Line}
use Rattle.lines.specs.declared.line.Line.TheVariants as line
use Rattle.lines.specs.declared.part.Part.{Part}
use Rattle.lines.specs.declared.wanted.Wanted.{Wanted}
use Rattle.lines.specs.declared.wanted.Wanted.TheVariants as wanted

-- a line as numbers: its kind, the numbers in its fields, the numbers of its data
pub record Content : Type 0 where
  pub kind : Kind
  pub fields : List ℕ
  pub numbers : List ℕ

-- the line at the head of a text, without the byte that closes it
abbrev pub head : List ℕ → List ℕ
head text = take (prefix_len is_inline text) text

-- no byte before the closing one, or no closing one at all
abbrev pub lineless : List ℕ → Bool
lineless text = prefix_len is_inline text == 0 || nat_le (length text) (prefix_len is_inline text)

-- how far a line has only bytes that a line may have
abbrev pub sound_to : List ℕ → ℕ
sound_to l = prefix_len is_sound l

-- the first field is two digits that spell the kind's number
abbrev pub of_kind : Kind → List ℕ → Bool
of_kind k l = prefix_len is_digit l == 2 && numeral (spelled (take 2 l)) == kind_number k

-- the kind's fields and data follow it, and nothing else
abbrev pub formed : Kind → List ℕ → Bool
formed k l = shaped (widths k) (has_data k) (drop 2 l)

-- where the data of a kind begins in its line
abbrev pub data_place : Kind → ℕ
data_place k = 3 + reach (widths k)

-- the numbers of a line of that kind
abbrev pub content_of : Kind → List ℕ → Content
content_of k l = record {
  kind = k;
  fields = values (widths k) (drop 2 l);
  numbers = cond (has_data k) (spelled (drop (data_place k) l)) [];
}

-- threshold and number of cards: 2 ≤ t ≤ n ≤ 8
abbrev pub planned : ℕ → ℕ → Bool
planned t n = nat_le 2 t && (nat_le t n && nat_le n 8)

-- the length of a key: 1 ≤ L ≤ 64
abbrev pub sized : ℕ → Bool
sized l = nat_le 1 l && nat_le l 64

-- the numbers of a card: this field mark, t and n, a card number below n, L
abbrev pub dealt : ℕ → ℕ → ℕ → ℕ → ℕ → ℕ → Bool
dealt mark f t n j l = f == mark && (planned t n && (nat_lt j n && sized l))

-- L rounded up to a multiple of t: t times (L / t rounded up)
abbrev pub padded : ℕ → ℕ → ℕ
padded t l = t * ((l + (t - 1)) / t)

-- a number is one of a list
abbrev pub among : ℕ → List ℕ → Bool
among x [] = false
among x (y ∷ ys) = x == y || among x ys

-- the kind of line that is wanted
abbrev pub kind_of : Wanted → Kind
kind_of (wanted.Plan marks) = kind.Plan
kind_of (wanted.Row t) = kind.Row
kind_of (wanted.Card mark) = kind.Card
kind_of wanted.Key = kind.Key
kind_of (wanted.Dummy t l) = kind.Dummy

-- the numbers keep their limits. Plan: a known field mark, then t and n.
-- Card: this field mark, t and n, a card number below n, L. Key: L is the number of its numbers
abbrev pub within : Wanted → Content → Bool
within (wanted.Plan marks) c = among (slice_index c.fields 0) marks.now && planned (slice_index c.fields 1) (slice_index c.fields 2)
within (wanted.Row t) c = true
within (wanted.Card mark) c = dealt mark (slice_index c.fields 0) (slice_index c.fields 2) (slice_index c.fields 3) (slice_index c.fields 4) (slice_index c.fields 5)
within wanted.Key c = nat_le (length c.numbers) 64
within (wanted.Dummy t l) c = true

-- the data is as long as it should be. Row: t. Card and dummy key: L rounded up to a multiple of t
abbrev pub counted : Wanted → Content → Bool
counted (wanted.Plan marks) c = true
counted (wanted.Row t) c = length c.numbers == t
counted (wanted.Card mark) c = length c.numbers == padded (slice_index c.fields 2) (slice_index c.fields 5)
counted wanted.Key c = true
counted (wanted.Dummy t l) c = length c.numbers == padded t l

-- numbers as they were wanted: of that kind, within their limits, data as long as it should be
pub record Kept (w : Wanted) (c : Content) : Type 0 where
  pub kind : c.kind ≡ kind_of w
  pub limits : within w c ≡ true
  pub count : counted w c ≡ true

-- the faults of a line's text, in order
abbrev pub text_faults : Kind → List ℕ → List (Bool × Fault)
text_faults k l = (nat_lt (sound_to l) (length l), Byte (sound_to l)) ∷ (not (of_kind k l), Unwanted) ∷ (not (formed k l), Shape) ∷ []

-- the faults of its numbers, in order
abbrev pub number_faults : Wanted → Content → List (Bool × Fault)
number_faults w c = (not (within w c), Limits) ∷ (not (counted w c), Length) ∷ []

-- a value, unless there is a fault
abbrev pub unless : {A : Type 0} → Option Fault → A → Result A Fault
unless None x = Ok x
unless (Some f) x = Err f

-- a line's numbers, unless they are at fault
abbrev pub judged : Wanted → Content → Result Content Fault
judged w c = unless (first (number_faults w c)) c

-- all faults of a line, in order
abbrev pub line_faults : Wanted → List ℕ → List (Bool × Fault)
line_faults w l = text_faults (kind_of w) l ++ number_faults w (content_of (kind_of w) l)

-- all faults of the line at the head of a text, in order
abbrev pub faults : Wanted → List ℕ → List (Bool × Fault)
faults w text = (lineless text, Absent) ∷ line_faults w (head text)

-- what reading gives: the first fault that holds, or the line's numbers
abbrev pub reading : Wanted → List ℕ → Result Content Fault
reading w text = unless (first (faults w text)) (content_of (kind_of w) (head text))

-- the numbers of a line that was read
abbrev pub content : Line → Content
content (line.Plan f t n) = record { kind = kind.Plan; fields = f ∷ t ∷ n ∷ []; numbers = [] }
content (line.Row d) = record { kind = kind.Row; fields = []; numbers = spelled d.digits.now }
content (line.Card f m t n j l d) = record {
  kind = kind.Card;
  fields = f ∷ numeral (spelled m.digits.now) ∷ t ∷ n ∷ j ∷ l ∷ [];
  numbers = spelled d.digits.now;
}
content (line.Key m d) = record { kind = kind.Key; fields = numeral (spelled m.digits.now) ∷ []; numbers = spelled d.digits.now }
content (line.Dummy d) = record { kind = kind.Dummy; fields = []; numbers = spelled d.digits.now }

-- what came, with a line by its numbers
abbrev pub told : Result Line Fault → Result Content Fault
told (Ok l) = Ok (content l)
told (Err f) = Err f

-- a part of a line that was read: where it begins in the line, and its digits
abbrev pub placed : Part → ℕ × List ℕ
placed p = (p.place, p.digits.now)

-- the parts that a line borrows from the text: deal mark, then data
abbrev pub parts : Line → List (ℕ × List ℕ)
parts (line.Plan f t n) = []
parts (line.Row d) = placed d ∷ []
parts (line.Card f m t n j l d) = placed m ∷ placed d ∷ []
parts (line.Key m d) = placed m ∷ placed d ∷ []
parts (line.Dummy d) = placed d ∷ []

-- the part of a line from a place on, of so many digits
abbrev pub part_at : ℕ → ℕ → List ℕ → ℕ × List ℕ
part_at p k l = (p, take k (drop p l))

abbrev pub data_at : Kind → List ℕ → ℕ × List ℕ
data_at k l = (data_place k, drop (data_place k) l)

-- where these parts lie in a line of a kind
abbrev pub parts_of : Kind → List ℕ → List (ℕ × List ℕ)
parts_of kind.Plan l = []
parts_of kind.Row l = data_at kind.Row l ∷ []
parts_of kind.Card l = part_at (3 + reach (1 ∷ [])) (2 * mark_bytes) l ∷ data_at kind.Card l ∷ []
parts_of kind.Key l = part_at 3 (2 * mark_bytes) l ∷ data_at kind.Key l ∷ []
parts_of kind.Dummy l = data_at kind.Dummy l ∷ []
parts_of kind.Refusal l = []
