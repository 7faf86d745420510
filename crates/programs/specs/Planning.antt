-- The lines of a plan at the head of a text, which both programs read first. Assumes nothing.
--   PlanLines   the text, which is not too long, begins with the lines of a plan
--   Unplanned   the answer to a text that does not
use Rattle.std.specs.Prelude.{◌≡◌, ℕ, ◌+◌, ◌-◌, ◌<◌, ◌≤◌, List, length}
use Rattle.field.specs.declared.known.Known.{Known}
use Rattle.lines.specs.Readers.{longest_text}
use Rattle.lines.specs.declared.fault.Fault.{Fault}
use Rattle.lines.specs.declared.kind.Kind.TheVariants as kind
use Rattle.lines.specs.declared.wanted.Wanted.TheVariants as wanted
use Rattle.programs.specs.Answers.{Answer, no_line, at_line}
use Rattle.programs.specs.Answers.Answer.{Refuses}
use Rattle.programs.specs.Texts.{Block, Broken, NoPlan, PlanHead}

-- a plan line and the lines of its n − t rows, and then the rest
pub record PlanLines (known : Known) (t n : ℕ) (rows text rest : List ℕ) : Type 0 where
  pub short : length text ≤ longest_text
  pub middle : List ℕ
  pub head : PlanHead known t n text middle
  pub rows_are : Block kind.Row t (n - t) middle rows rest

pub data Unplanned (text : List ℕ) (a : Answer) : Type 0 where
  long_text : longest_text < length text → a ≡ Refuses 0x46 0 no_line → Unplanned text a
  no_plan : length text ≤ longest_text → (f : Fault) → NoPlan text f → a ≡ at_line f 0 → Unplanned text a
  no_row : length text ≤ longest_text → (known : Known) (t n : ℕ) (middle : List ℕ) → PlanHead known t n text middle
      → (k : ℕ) (f : Fault) → Broken (wanted.Row t) (n - t) k middle f → a ≡ at_line f (1 + k) → Unplanned text a
