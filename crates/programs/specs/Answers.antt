-- What a program answers: a text that it grants, or one refusal. Assumes nothing.
--   Answer    what is answered
--   no_line   the line number of a refusal that no line is to blame for
--   at_line   the refusal of a fault in a line
--   noticed   the refusal that a notice is
--   Tells     what an answer of the code, which may also want memory, says of the text
--   Says      which answer it is
--   output    the text that is written
use Rattle.std.specs.Prelude.{◌≡◌, ℕ, Bool, true, false, List, unwrap_or, Ok, Err, Result}
use Rattle.lines.specs.Faults.{fault_number, fault_carries}
use Rattle.lines.specs.Writing.{written}
use Rattle.lines.specs.declared.fault.Fault.{Fault}
use Rattle.slot.specs.Refusals.{listing}
use Rattle.programs.specs.Texts.{refusal_line}
use Rattle.programs.specs.declared.notice.Notice.{Notice}
use Rattle.programs.specs.declared.stop.Stop.{Stop}
use Rattle.programs.specs.declared.stop.Stop.TheVariants.{Refused, NoMemory}

-- granted, with a text; or refused, with a refusal's number, what it carries and the number of a line
pub data Answer : Type 0 where
  Grants : List ℕ → Answer
  Refuses : (number carries line : ℕ) → Answer

abbrev pub no_line : ℕ
no_line = 0xFFFF

abbrev pub at_line : Fault → (line : ℕ) → Answer
at_line f line = Refuses (fault_number f) (fault_carries f) line

abbrev pub noticed : Notice → Answer
noticed n = Refuses (listing n.refusal).0 (listing n.refusal).1 (unwrap_or n.line no_line)

-- the refusal that a program stops with, which is no answer where memory is wanting
abbrev pub Stops : Stop → (Answer → Type 0) → Type 0
Stops (Refused n) P = P (noticed n)
Stops NoMemory P = Unit {0}

-- what a granted value or a stop says
abbrev pub Tells : {T : Type 0} → Result T Stop → (T → Type 0) → (Answer → Type 0) → Type 0
Tells (Ok x) P Q = P x
Tells (Err s) P Q = Stops s Q

-- the refusal that it is, which is none where memory is wanting
abbrev pub Refusing : Stop → Answer → Type 0
Refusing (Refused n) a = a ≡ noticed n
Refusing NoMemory a = ⊥

-- a granted value, of which the text is written, or a refusal
abbrev pub Says : {T : Type 0} → (T → List ℕ) → Result T Stop → Answer → Type 0
Says text (Ok x) a = a ≡ Grants (text x)
Says text (Err s) a = Refusing s a

abbrev pub output : Answer → List ℕ
output (Grants text) = text
output (Refuses number carries line) = written (refusal_line number carries line)

abbrev pub granted : Answer → Bool
granted (Grants text) = true
granted (Refuses number carries line) = false
