-- What a slot holds: the heading of its first card, and its cards by number. Assumes nothing.
--   width        how many numbers the memory has for each card
--   card_length  how many numbers a card with that heading has
--   Cards        place k has the data of card k, or none where card k is not held
--   holding      what the memory of a slot stands for
--   count        how many cards are held
use Rattle.std.specs.Prelude.{ℕ, ◌*◌, Bool, true, false, cond, ◌&&◌, List, map, take, drop, is_some, Some, None, count_by, Option, nat_le, slice_index_or}
use Rattle.std.specs.List.{range_with_len}
use Rattle.field.specs.Rows.{within}
use Rattle.sharing.specs.Scheme.{lanes}
use Rattle.slot.specs.Phases.{first_heading}
use Rattle.slot.specs.declared.phase.Heading.{Heading}
use Rattle.slot.specs.declared.memory.State.{State}

abbrev pub width : ℕ
width = 70

abbrev pub places : ℕ
places = 8

abbrev pub card_length : Option Heading → ℕ
card_length None = 0
card_length (Some h) = h.t * lanes h.t h.size

abbrev pub Cards : Type 0
Cards = List (Option (List ℕ))

pub record Holding : Type 0 where
  pub first : Option Heading
  pub cards : Cards

-- the data of card k in a memory, if it is held
abbrev pub card_at : (held : List Bool) → (memory : List ℕ) → (len k : ℕ) → Option (List ℕ)
card_at held memory len k = cond (slice_index_or held k false) (Some (take len (drop (width * k) memory))) None

abbrev pub holding : State → Holding
holding s = record {
  first = first_heading s.phase;
  cards = map (card_at s.held s.memory (card_length (first_heading s.phase))) (range_with_len 0 places);
}

abbrev pub count : Cards → ℕ
count cards = count_by is_some cards

-- t and n within limits, L from 1 to 64
abbrev pub within_limits : Option Heading → Bool
within_limits None = true
within_limits (Some h) = within h.t h.n && (nat_le 1 h.size && nat_le h.size 64)

-- how many cards the deal has
abbrev pub most : Option Heading → ℕ
most None = 0
most (Some h) = h.n

abbrev pub tally : List Bool → ℕ
tally held = count_by (λ b. b) held
