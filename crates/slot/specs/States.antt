-- What a write to a slot's memory leaves in it, number by number. Assumes nothing.
--   laid     a memory with numbers laid into it from a place on
--   put      a card is put into its 70 numbers
--   taken    a card is taken out, and its 70 numbers are zero
--   emptied  nothing is held, and all 560 numbers are zero
use Rattle.std.specs.Prelude.{ℕ, ◌+◌, ◌*◌, true, false, List, ◌++◌, length, take, drop, replicate, slice_set}
use Rattle.slot.specs.Holdings.{width, places, tally}
use Rattle.slot.specs.Phases.{phase_of, heading_after}
use Rattle.slot.specs.declared.phase.Event.TheVariants.{Insert, Pull}
use Rattle.slot.specs.declared.phase.Heading.{Heading}
use Rattle.slot.specs.declared.phase.Phase.TheVariants.{Empty}
use Rattle.slot.specs.declared.memory.State.{State}

abbrev pub laid : (memory : List ℕ) → (at : ℕ) → List ℕ → List ℕ
laid memory at numbers = take at memory ++ (numbers ++ drop (at + length numbers) memory)

abbrev pub put : State → Heading → (j : ℕ) → List ℕ → State
put s h j numbers = record {
  phase = phase_of (heading_after s.phase (Insert h)) (tally (slice_set s.held j true));
  held = slice_set s.held j true;
  memory = laid s.memory (width * j) numbers;
}

abbrev pub taken : State → (j : ℕ) → State
taken s j = record {
  phase = phase_of (heading_after s.phase Pull) (tally (slice_set s.held j false));
  held = slice_set s.held j false;
  memory = laid s.memory (width * j) (replicate width 0);
}

abbrev pub emptied : State
emptied = record { phase = Empty; held = replicate places false; memory = replicate 560 0 }
