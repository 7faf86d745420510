-- How the slot refuses: every refusal's number, what it carries and the layer it comes from. Assumes nothing.
--   listing    the number of each refusal, as two hexadecimal digits say it, what it carries, and its layer
--   foremost   the first refusal of a table whose condition holds
--   refused    the refusal that an answer is, if it is one
use Rattle.std.specs.Prelude.{ℕ, Bool, cond, List, [], ◌∷◌, Some, None, Ok, Err, Option, Result}
use Rattle.field.specs.Refusals as shared
use Rattle.lines.specs.Faults.{fault_number, fault_carries}
use Rattle.slot.specs.declared.refusal.Layer.{Layer}
use Rattle.slot.specs.declared.refusal.Layer.TheVariants as layer
use Rattle.slot.specs.declared.refusal.SlotRefusal.{SlotRefusal}
use Rattle.slot.specs.declared.refusal.SlotRefusal.TheVariants.{Line, Shared, OtherDeal, HeldAlready, OtherPlan, NotHeld, TooFew}

-- the layer is the line for 40 to 46, and else the slot
abbrev pub listing : SlotRefusal → ℕ × ℕ × Layer
listing (Line f) = (fault_number f, fault_carries f, layer.Line)
listing (Shared e) = ((shared.listing e).0, (shared.listing e).1, layer.Slot)
listing OtherDeal = (0x50, 0, layer.Slot)
listing (HeldAlready j) = (0x51, j, layer.Slot)
listing OtherPlan = (0x52, 0, layer.Slot)
listing (NotHeld j) = (0x53, j, layer.Slot)
listing (TooFew held) = (0x54, held, layer.Slot)

abbrev pub foremost : List (Bool × SlotRefusal) → Option SlotRefusal
foremost [] = None
foremost (x ∷ rest) = cond x.0 (Some x.1) (foremost rest)

abbrev pub refused : {T : Type 0} → Result T SlotRefusal → Option SlotRefusal
refused (Ok x) = None
refused (Err e) = Some e
