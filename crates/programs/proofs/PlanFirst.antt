-- The rule of the dealing program, told by the lines of a plan that both programs read first. Assumes nothing.
--   PlanFirst   the text has no plan, or it begins with the lines of one, and the rest has an answer
use Rattle.std.proofs.Common.{ℕ, ◌+◌, ◌-◌, List}
use Rattle.field.specs.Known.{operations}
use Rattle.field.specs.declared.known.Known.{Known}
use Rattle.sharing.specs.Scheme.{plan_of}
use Rattle.programs.specs.Answers.{Answer}
use Rattle.programs.specs.Dealing.{Dealing, Examined}
use Rattle.programs.specs.Dealing.Dealing.{long_text as deals_long, no_plan as deals_no_plan, no_row as deals_no_row, planned as deals_planned}
use Rattle.programs.specs.Planning.{PlanLines, Unplanned}
use Rattle.programs.specs.Planning.Unplanned.{long_text, no_plan, no_row}

pub data PlanFirst (text : List ℕ) (a : Answer) : Type 0 where
  without : Unplanned text a → PlanFirst text a
  after_plan : (known : Known) (t n : ℕ) (rows rest : List ℕ) → PlanLines known t n rows text rest
      → Examined (operations known) (plan_of t n rows) (1 + (n - t)) rest a → PlanFirst text a

pub plan_first : (text : List ℕ) (a : Answer) → Dealing text a → PlanFirst text a
plan_first text a (deals_long h is) = without (long_text h is)
plan_first text a (deals_no_plan h f none is) = without (no_plan h f none is)
plan_first text a (deals_no_row h known t n middle head k f broken is) = without (no_row h known t n middle head k f broken is)
plan_first text a (deals_planned h known t n middle rows rest head block e) =
    after_plan known t n rows rest (record { short = h; middle = middle; head = head; rows_are = block }) e

pub dealing_unplanned : (text : List ℕ) (a : Answer) → Unplanned text a → Dealing text a
dealing_unplanned text a (long_text h is) = deals_long h is
dealing_unplanned text a (no_plan h f none is) = deals_no_plan h f none is
dealing_unplanned text a (no_row h known t n middle head k f broken is) = deals_no_row h known t n middle head k f broken is

pub dealing_planned : (text : List ℕ) (a : Answer) (known : Known) (t n : ℕ) (rows rest : List ℕ) → PlanLines known t n rows text rest
    → Examined (operations known) (plan_of t n rows) (1 + (n - t)) rest a → Dealing text a
dealing_planned text a known t n rows rest p e = deals_planned p.short known t n p.middle rows rest p.head p.rows_are e
