-- The faults of a text: number and what it carries, for every case. Assumes nothing.
use Rattle.std.specs.Prelude.{ℕ, Bool, cond, List, [], ◌∷◌, Some, None, Option}
use Rattle.lines.specs.declared.fault.Fault.{Fault}
use Rattle.lines.specs.declared.fault.Fault.TheVariants.{Absent, Byte, Unwanted, Shape, Limits, Length, Excess}

-- the number of a fault
abbrev pub fault_number : Fault → ℕ
fault_number Absent = 0x40
fault_number (Byte place) = 0x41
fault_number Unwanted = 0x42
fault_number Shape = 0x43
fault_number Limits = 0x44
fault_number Length = 0x45
fault_number Excess = 0x46

-- what it carries: the place of the byte in its line, from 0; else 0
abbrev pub fault_carries : Fault → ℕ
fault_carries Absent = 0
fault_carries (Byte place) = place
fault_carries Unwanted = 0
fault_carries Shape = 0
fault_carries Limits = 0
fault_carries Length = 0
fault_carries Excess = 0

-- the first fault in a list whose condition holds
abbrev pub first : List (Bool × Fault) → Option Fault
first [] = None
first (x ∷ xs) = cond x.0 (Some x.1) (first xs)
