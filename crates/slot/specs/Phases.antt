-- The phases of a slot: which one it is in, by the heading of its first card and by how many cards it holds. Assumes nothing.
--   first_heading   what the first card says of its deal; none in an empty slot
--   heading_after   the same after an event: the first card's heading stays, and in an empty slot a new card's is taken
--   phase_of        empty without a card, ready with t cards or more, else gathering
--   in_phase        a phase is right for so many cards
use Rattle.std.specs.Prelude.{ℕ, Bool, cond, ◌&&◌, Some, None, Option, ◌==◌, nat_le, nat_lt}
use Rattle.std.specs.Option.{unwrap_or}
use Rattle.slot.specs.declared.phase.Heading.{Heading}
use Rattle.slot.specs.declared.phase.Phase.{Phase}
use Rattle.slot.specs.declared.phase.Phase.TheVariants.{Empty, Gathering, Ready}
use Rattle.slot.specs.declared.phase.Event.{Event}
use Rattle.slot.specs.declared.phase.Event.TheVariants.{Insert, Pull, Clear}

abbrev pub first_heading : Phase → Option Heading
first_heading Empty = None
first_heading (Gathering h) = Some h
first_heading (Ready h) = Some h

abbrev pub heading_after : Phase → Event → Option Heading
heading_after p (Insert h) = Some (unwrap_or (first_heading p) h)
heading_after p Pull = first_heading p
heading_after p Clear = None

abbrev pub phase_of : Option Heading → (held : ℕ) → Phase
phase_of None held = Empty
phase_of (Some h) held = cond (held == 0) Empty (cond (nat_lt held h.t) (Gathering h) (Ready h))

abbrev pub in_phase : Phase → (held : ℕ) → Bool
in_phase Empty held = held == 0
in_phase (Gathering h) held = nat_lt 0 held && nat_lt held h.t
in_phase (Ready h) held = nat_lt 0 held && nat_le h.t held
