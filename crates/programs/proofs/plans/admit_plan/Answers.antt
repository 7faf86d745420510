-- The refusal of the check, or a plan that it grants.
use Rattle.std.proofs.Common.{◌∙◌}
use Rattle.sharing.specs.Scheme.{plan_of}
use Rattle.programs.proofs.Chain.{fit_by, turns_into, unadmitted_by}
use Rattle.programs.proofs.plans.admit_plan.Goals as goal

pub returns-in_err-admit : goal.returns-in_err-admit
returns-in_err-admit g c =
    turns_into c.from_residual.result _ _ _ c.from_residual.ensures.1
    (unadmitted_by g.F.Field.ops (plan_of c.args.plan.t c.args.plan.n c.args.rows.now) _ c.new.ensures _ c.in_err-admit.field-0.0.refusal
    c.requires c.in_err-admit.ensures.answer)

pub returns : goal.returns
returns g c =
    let a = c.in_ok-admit.ensures in
    (fit_by g.F.Field.ops (plan_of c.args.plan.t c.args.plan.n c.args.rows.now) _ c.new.ensures _ a.grants, a.plan ∙ c.new.ensures)
