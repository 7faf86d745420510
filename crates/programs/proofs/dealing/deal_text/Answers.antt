-- The plan's lines are at fault, or what comes of the plan that was read.
use Rattle.std.proofs.Common.{◌+◌, ◌-◌, vec_items, string_bytes}
use Rattle.field.specs.Known.{operations}
use Rattle.field.specs.declared.known.Known.TheVariants.{Bytes, Modulo97}
use Rattle.sharing.specs.Scheme.{plan_of}
use Rattle.lines.specs.Readers.{left, standing}
use Rattle.programs.specs.Answers.{Answer}
use Rattle.programs.specs.Answers.Answer.{Grants}
use Rattle.programs.specs.Dealing.{Dealing, Examined}
use Rattle.programs.proofs.Chain.{in_field, passes_on, tells_more}
use Rattle.programs.proofs.PlanFirst.{dealing_planned, dealing_unplanned}
use Rattle.programs.proofs.dealing.deal_text.Goals as goal

pub returns-in_err-lines : goal.returns-in_err-lines
returns-in_err-lines c = passes_on c.from_residual.result _ _ _ _ c.from_residual.ensures.1 (dealing_unplanned c.args.text.now) c.in_err-lines.ensures

pub returns-in-Bytes : goal.returns-in-Bytes
returns-in-Bytes c =
    let x = c.in_ok-lines.lines in
    let rest = left (standing x.reader) in
    let plan = plan_of x.plan.t x.plan.n (vec_items x.rows) in
    let line = 1 + (x.plan.n - x.plan.t) in
    let all : (a : Answer) → Examined (operations Bytes) plan line rest a → Dealing c.args.text.now a =
    λ a e. dealing_planned c.args.text.now a x.plan.known x.plan.t x.plan.n (vec_items x.rows) rest c.in_ok-lines.ensures (in_field (λ o. Examined o plan line rest a) x.plan.known Bytes c.in-Bytes.is e) in
    tells_more c.deal_plan.result _ (λ s. Dealing c.args.text.now (Grants (string_bytes s))) _ (λ a. Dealing c.args.text.now a)
    (λ s e. all (Grants (string_bytes s)) e) all c.deal_plan.ensures

pub returns-in-Modulo97 : goal.returns-in-Modulo97
returns-in-Modulo97 c =
    let x = c.in_ok-lines.lines in
    let rest = left (standing x.reader) in
    let plan = plan_of x.plan.t x.plan.n (vec_items x.rows) in
    let line = 1 + (x.plan.n - x.plan.t) in
    let all : (a : Answer) → Examined (operations Modulo97) plan line rest a → Dealing c.args.text.now a =
    λ a e. dealing_planned c.args.text.now a x.plan.known x.plan.t x.plan.n (vec_items x.rows) rest c.in_ok-lines.ensures (in_field (λ o. Examined o plan line rest a) x.plan.known Modulo97 c.in-Modulo97.is e) in
    tells_more c.deal_plan-in-Modulo97.result _ (λ s. Dealing c.args.text.now (Grants (string_bytes s))) _ (λ a. Dealing c.args.text.now a)
    (λ s e. all (Grants (string_bytes s)) e) all c.deal_plan-in-Modulo97.ensures
