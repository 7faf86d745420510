-- What the opening program answers to a text. Assumes nothing.
--   mark_held   the deal mark of the cards held
--   Unlocking   the answer of a slot that holds the cards of the text
--   Tried       the answer to the text after the lines of a plan
--   Opening     the answer to a text: the first refusal in the order of reading and checking, or the key
--   OnlyOpening no other answer
use Rattle.std.specs.Prelude.{◌≡◌, ℕ, ◌+◌, ◌-◌, Bool, List, [], replicate, Some, None, Result}
use Rattle.field.specs.Codes.{Operations}
use Rattle.field.specs.Known.{operations}
use Rattle.field.specs.declared.known.Known.{Known}
use Rattle.sharing.specs.Scheme.{Plan, plan_of}
use Rattle.lines.specs.Writing.{written}
use Rattle.slot.specs.Holdings.{Holding}
use Rattle.slot.specs.Unlocks.{Unlocked, size_held, told}
use Rattle.slot.specs.declared.refusal.SlotRefusal.{SlotRefusal}
use Rattle.programs.specs.Answers.{Answer, granted, no_line, output}
use Rattle.programs.specs.Answers.Answer.{Grants, Refuses}
use Rattle.programs.specs.Gathering.{Taken, Ungathered}
use Rattle.programs.specs.Planning.{PlanLines, Unplanned}
use Rattle.programs.specs.Texts.{key_line}
use Rattle.programs.specs.Vetting.{Fit, Unadmitted, room}

abbrev pub mark_held : Holding → ℕ
mark_held s = elim s.first [ Some h ↦ h.mark.number | None ↦ 0 ]

-- the slot is handed the plan, a place of L zeros and a workspace; r is what it answers
pub data Unlocking (o : Operations) (p : Plan) (s : Holding) (a : Answer) : Type 0 where
  stays_shut : (after : List ℕ) (r : Result (Unit {0}) SlotRefusal) (z : ℕ × ℕ)
      → Unlocked o p s (replicate (size_held s) 0) after room r → told r ≡ Some z → a ≡ Refuses z.0 z.1 no_line → Unlocking o p s a
  gives_key : (key : List ℕ) (r : Result (Unit {0}) SlotRefusal)
      → Unlocked o p s (replicate (size_held s) 0) key room r → told r ≡ None → a ≡ Grants (written (key_line (mark_held s) key)) → Unlocking o p s a

pub data Tried (o : Operations) (p : Plan) (line : ℕ) (text : List ℕ) (a : Answer) : Type 0 where
  unadmitted : Unadmitted o p a → Tried o p line text a
  ungathered : Fit o p → Ungathered o p.t line text a → Tried o p line text a
  gathered : Fit o p → (s : Holding) → Taken o p.t text s [] → Unlocking o p s a → Tried o p line text a

pub data Opening (text : List ℕ) (a : Answer) : Type 0 where
  unplanned : Unplanned text a → Opening text a
  planned : (known : Known) (t n : ℕ) (rows rest : List ℕ) → PlanLines known t n rows text rest
      → Tried (operations known) (plan_of t n rows) (1 + (n - t)) rest a → Opening text a

-- whatever answer there is to the text, this is its text and its flag
abbrev pub OnlyOpening : (text written : List ℕ) → (flag : Bool) → Type 0
OnlyOpening text written flag = (a : Answer) → Opening text a → (output a ≡ written) × (granted a ≡ flag)
