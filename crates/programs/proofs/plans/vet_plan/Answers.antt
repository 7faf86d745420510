-- The refusal of the check that refuses first, or a plan that both grant.
use Rattle.std.proofs.Common.{ℕ, ◌∙◌}
use Rattle.std.proofs.lemmas.List.{length-replicate}
use Rattle.sharing.specs.Scheme.{plan_of}
use Rattle.programs.specs.Vetting.Unvetted.{not_admitted}
use Rattle.programs.proofs.Chain.{passed_by, passes_on, turns_into, unvetted_by}
use Rattle.programs.proofs.plans.vet_plan.Goals as goal

pub returns-in_err-admitted : goal.returns-in_err-admitted
returns-in_err-admitted g c =
    passes_on c.from_residual.result _ _ _ _ c.from_residual.ensures.1 (λ a u. not_admitted u.0 u.1 u.2) c.in_err-admitted.ensures

pub returns-in_err-vet : goal.returns-in_err-vet
returns-in_err-vet g c =
    let a = c.in_ok-admitted.ensures in
    turns_into c.from_residual-in_err-vet.result _ _ _ c.from_residual-in_err-vet.ensures.1
    (unvetted_by g.F.Field.ops (plan_of c.args.plan.t c.args.plan.n c.args.rows.now) _ a.1 a.0 _ c.in_err-vet.field-0.0.refusal
    (c.admit_plan.auto.workspace ∙ length-replicate {A = ℕ} 4096 0) c.in_err-vet.ensures.answer)

pub returns : goal.returns
returns g c =
    let a = c.in_ok-admitted.ensures in
    let v = c.in_ok-vet.ensures in
    (passed_by g.F.Field.ops (plan_of c.args.plan.t c.args.plan.n c.args.rows.now) _ a.1 a.0 _ v.grants, v.plan ∙ a.1)
