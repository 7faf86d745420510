-- What Insert, Pull and Clear answer and leave, by what the slot holds. Assumes nothing.
--   card_read       the card that a text is, if it is one card line and nothing else, or its first fault
--   heading_of, number_of   the heading of a card that was read, and its number
--   differs         the card's heading is not the one held
--   held_at         the data of a card that is held
--   card_table      what the slot refuses of a card that was read: 35, 50, 51
--   insert_refusal  what Insert refuses
--   inserted        what the slot holds with one more card
--   insert_after    what it holds after Insert
--   insert_memory   what its memory is after Insert
--   pull_table      what Pull refuses
--   pulled          what the slot holds with one card less
--   nothing         what an empty slot holds
use Rattle.std.specs.Prelude.{ℕ, ◌+◌, ◌*◌, Bool, false, cond, not, ◌&&◌, List, [], ◌∷◌, replicate, is_some, Some, None, Ok, Err, Option, Result, ◌==◌, slice_index, slice_index_or, slice_set}
use Rattle.std.specs.Option.{unwrap_or}
use Rattle.field.specs.Codes.{Operations}
use Rattle.field.specs.declared.refusal.Refusal.TheVariants.{DataCode}
use Rattle.plan_check.specs.Faults.{first_no_code}
use Rattle.lines.specs.Lines.{Content, reading}
use Rattle.lines.specs.Readers.{Stand, opening, left, stepped, ending}
use Rattle.lines.specs.declared.fault.Fault.{Fault}
use Rattle.lines.specs.declared.wanted.Wanted.TheVariants as wanted
use Rattle.slot.specs.Holdings.{Holding, count, holding, places}
use Rattle.slot.specs.Refusals.{foremost}
use Rattle.slot.specs.States.{put}
use Rattle.slot.specs.declared.memory.State.{State}
use Rattle.slot.specs.declared.phase.Heading.{Heading}
use Rattle.slot.specs.declared.refusal.SlotRefusal.{SlotRefusal}
use Rattle.slot.specs.declared.refusal.SlotRefusal.TheVariants.{Line, Shared, OtherDeal, HeldAlready, NotHeld}

-- a text is opened, a card line over the field with that mark is read from it, and nothing is left; else it is the first fault
-- on that way
abbrev pub closed : Content → Result (Unit {0}) Fault → Result Content Fault
closed c (Ok u) = Ok c
closed c (Err f) = Err f

abbrev pub read_on : Stand → Result Content Fault → Result Content Fault
read_on s (Ok c) = closed c (ending (left (stepped s)))
read_on s (Err f) = Err f

abbrev pub read_from : (mark : ℕ) → Result Stand Fault → Result Content Fault
read_from mark (Ok s) = read_on s (reading (wanted.Card mark) (left s))
read_from mark (Err f) = Err f

abbrev pub card_read : (mark : ℕ) → List ℕ → Result Content Fault
card_read mark text = read_from mark (opening text)

-- a card line has these fields: field mark, deal mark, t, n, card number, L
abbrev pub heading_of : Content → Heading
heading_of c = record {
  mark = record { number = slice_index c.fields 1 };
  t = slice_index c.fields 2;
  n = slice_index c.fields 3;
  size = slice_index c.fields 5;
}

abbrev pub number_of : Content → ℕ
number_of c = slice_index c.fields 4

abbrev pub same_heading : Heading → Heading → Bool
same_heading a b = a.mark.number == b.mark.number && (a.t == b.t && (a.n == b.n && a.size == b.size))

-- an empty slot takes any heading
abbrev pub differs : Option Heading → Heading → Bool
differs None h = false
differs (Some first) h = not (same_heading first h)

abbrev pub held_at : Holding → ℕ → Option (List ℕ)
held_at s j = slice_index_or s.cards j None

abbrev pub card_table : Operations → Holding → Content → List (Bool × SlotRefusal)
card_table o s c =
    (is_some (first_no_code o c.numbers), Shared (DataCode (256 * number_of c + unwrap_or (first_no_code o c.numbers) 0)))
    ∷ (differs s.first (heading_of c), OtherDeal)
    ∷ (is_some (held_at s (number_of c)), HeldAlready (number_of c))
    ∷ []

abbrev pub insert_refusal : Operations → Holding → List ℕ → Option SlotRefusal
insert_refusal o s text = elim (card_read o.mark text) [ Ok c ↦ foremost (card_table o s c) | Err f ↦ Some (Line f) ]

abbrev pub inserted : Holding → Content → Holding
inserted s c = record {
  first = Some (unwrap_or s.first (heading_of c));
  cards = slice_set s.cards (number_of c) (Some c.numbers);
}

abbrev pub insert_after : Operations → Holding → List ℕ → Holding
insert_after o s text =
    elim (card_read o.mark text) [ Ok c ↦ cond (is_some (foremost (card_table o s c))) s (inserted s c) | Err f ↦ s ]

abbrev pub insert_memory : Operations → State → List ℕ → State
insert_memory o s text =
    elim (card_read o.mark text) [
      | Ok c ↦ cond (is_some (foremost (card_table o (holding s) c))) s (put s (heading_of c) (number_of c) c.numbers)
      | Err f ↦ s
    ]

abbrev pub pull_table : Holding → (j : ℕ) → List (Bool × SlotRefusal)
pull_table s j = (not (is_some (held_at s j)), NotHeld j) ∷ []

-- with its last card the slot forgets the heading
abbrev pub pulled : Holding → (j : ℕ) → Holding
pulled s j = record {
  first = cond (count (slice_set s.cards j None) == 0) None s.first;
  cards = slice_set s.cards j None;
}

abbrev pub nothing : Holding
nothing = record { first = None; cards = replicate places None }
