-- The first line at fault, or the plan that was read.
use Rattle.std.proofs.Common.{◌≡◌, Ok, rules, subst}
use Rattle.lines.specs.Readers.{left, opening, standing}
use Rattle.programs.specs.Planning.Unplanned.{no_plan}
use Rattle.programs.specs.Texts.{NoPlan}
use Rattle.programs.proofs.Chain.{opened_at, passes_on, unrowed_by}
use Rattle.programs.proofs.planning.read_plan_lines.Goals as goal

pub returns-in_err-plan : goal.returns-in_err-plan
returns-in_err-plan c =
    let is : Ok (standing c.in_ok-reader.reader) ≡ opening c.args.text.now = search rules in
    let o = opened_at c.in_ok-reader.reader c.args.text.now is in
    passes_on c.from_residual-in_err-plan.result _ _ _ _ c.from_residual-in_err-plan.ensures.1
    (λ a u. no_plan o.1 u.0 (subst (λ x. NoPlan x u.0) o.0 u.1) u.2) c.in_err-plan.ensures

pub returns-in_err-read_block : goal.returns-in_err-read_block
returns-in_err-read_block c =
    let is : Ok (standing c.in_ok-reader.reader) ≡ opening c.args.text.now = search rules in
    let o = opened_at c.in_ok-reader.reader c.args.text.now is in
    let l = c.in_ok-plan.plan in
    passes_on c.from_residual-in_err-read_block.result _ _ _ _ c.from_residual-in_err-read_block.ensures.1
    (λ a b. unrowed_by l.known l.t l.n c.args.text.now (left (standing c.in_ok-reader.reader)) (left (standing c.read_plan.new.reader)) c.a_row.result a
    o.0 o.1 c.in_ok-plan.ensures c.a_row.ensures b)
    c.in_err-read_block.ensures
