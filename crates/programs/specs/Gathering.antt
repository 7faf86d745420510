-- The cards of a text, put into an empty slot one after the other. Assumes nothing.
--   CardHead     the text begins with a card line over a field
--   Taken        the text begins with so many cards, and the slot takes each of them
--   at_card      the answer to a card that the slot refuses
--   Short        what a refusal carries fits a refusal line
--   Ungathered   the answer to a text that is not t such cards and nothing else
use Rattle.std.specs.Prelude.{◌≡◌, ℕ, zero, suc, ◌+◌, ◌-◌, ◌<◌, ◌≤◌, cond, List, [], ◌++◌, length, Some, None, Ok, Err, ◌==◌}
use Rattle.field.specs.Codes.{Operations}
use Rattle.lines.specs.Faults.{fault_carries}
use Rattle.lines.specs.Lines.{Content, reading}
use Rattle.lines.specs.Writing.{written}
use Rattle.lines.specs.declared.fault.Fault.{Fault}
use Rattle.lines.specs.declared.wanted.Wanted.TheVariants as wanted
use Rattle.slot.specs.Holdings.{Holding}
use Rattle.slot.specs.Inserts.{card_table, inserted, nothing}
use Rattle.slot.specs.Refusals.{foremost, listing}
use Rattle.slot.specs.declared.refusal.SlotRefusal.{SlotRefusal}
use Rattle.slot.specs.declared.refusal.SlotRefusal.TheVariants.{Line, Shared, OtherDeal, HeldAlready, NotHeld, OtherPlan, TooFew}
use Rattle.programs.specs.Answers.{Answer, no_line, at_line}
use Rattle.programs.specs.Answers.Answer.{Refuses}

-- a card line as it is wanted, and then the rest
pub record CardHead (o : Operations) (c : Content) (text rest : List ℕ) : Type 0 where
  pub reads : reading (wanted.Card o.mark) text ≡ Ok c
  pub is : text ≡ written c ++ rest

-- k cards, after which the slot holds s, and then the rest
abbrev pub Taken : Operations → (k : ℕ) → (text : List ℕ) → (s : Holding) → (rest : List ℕ) → Type 0
Taken o zero text s rest = (s ≡ nothing) × (rest ≡ text)
Taken o (suc k) text s rest =
    (before : Holding) × (middle : List ℕ) × (c : Content)
    × Taken o k text before middle × CardHead o c middle rest × (foremost (card_table o before c) ≡ None) × (s ≡ inserted before c)

-- the line that is to blame for what the slot refuses of a card in a line: none for text after the card
abbrev pub line_of : SlotRefusal → (line : ℕ) → ℕ
line_of e line = cond ((listing e).0 == 0x46) no_line line

abbrev pub at_card : SlotRefusal → (line : ℕ) → Answer
at_card e line = Refuses (listing e).0 (listing e).1 (line_of e line)

-- what a line's fault carries lies within a text that is not too long
abbrev pub Short : SlotRefusal → Type 0
Short (Line f) = fault_carries f ≤ 4096
Short (Shared e) = Unit {0}
Short OtherDeal = Unit {0}
Short (HeldAlready j) = Unit {0}
Short (NotHeld j) = Unit {0}
Short OtherPlan = Unit {0}
Short (TooFew m) = Unit {0}

-- the first card is in the line with the number `line`; after the last card wanted there is to be no more text, which is asked
-- before the slot is
pub data Ungathered (o : Operations) (t line : ℕ) (text : List ℕ) (a : Answer) : Type 0 where
  no_card : (k : ℕ) → k < t → (s : Holding) (rest : List ℕ) → Taken o k text s rest
      → (f : Fault) → reading (wanted.Card o.mark) rest ≡ Err f → a ≡ at_line f (line + k) → Ungathered o t line text a
  more_text : (s : Holding) (middle : List ℕ) → Taken o (t - 1) text s middle → (c : Content) (rest : List ℕ)
      → CardHead o c middle rest → 0 < length rest → a ≡ Refuses 0x46 0 no_line → Ungathered o t line text a
  not_taken : (k : ℕ) → k < t → (s : Holding) (middle : List ℕ) → Taken o k text s middle → (c : Content) (rest : List ℕ)
      → CardHead o c middle rest → (k + 1 ≡ t → rest ≡ []) → (r : SlotRefusal) → foremost (card_table o s c) ≡ Some r
      → a ≡ Refuses (listing r).0 (listing r).1 (line + k) → Ungathered o t line text a
