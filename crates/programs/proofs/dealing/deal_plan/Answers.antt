-- The refusal of a check, or what comes of the text after the plan.
use Rattle.std.proofs.Common.{◌+◌, ◌-◌, vec_items, string_bytes, ap, subst}
use Rattle.sharing.specs.Scheme.{plan_of}
use Rattle.plan_check.specs.Plans.{vetted_plan}
use Rattle.lines.specs.Readers.{left, standing}
use Rattle.programs.specs.Answers.{Answer}
use Rattle.programs.specs.Answers.Answer.{Grants}
use Rattle.programs.specs.Dealing.{Dealt, Examined}
use Rattle.programs.specs.Dealing.Examined.{unvetted}
use Rattle.programs.specs.Vetting.{Unvetted}
use Rattle.programs.proofs.Chain.{examined_by, passes_on, tells_more}
use Rattle.programs.proofs.dealing.deal_plan.Goals as goal

pub returns-in_err-vetted : goal.returns-in_err-vetted
returns-in_err-vetted g c =
    let x = c.args.text.plan in
    passes_on c.from_residual.result _ _ _ _ c.from_residual.ensures.1
    (λ a u. unvetted (subst (λ rows. Unvetted g.F.Field.ops (plan_of x.t x.n rows) a) c.deref.ensures.value u)) c.in_err-vetted.ensures

pub returns : goal.returns
returns g c =
    let r = c.in_ok-vetted.ensures in
    let x = c.args.text.plan in
    let text = left (standing c.args.text.reader) in
    let line = ap (λ y. 1 + y) c.from.ensures in
    let all : (a : Answer) → Dealt g.F.Field.ops (vetted_plan c.in_ok-vetted.vetted) (1 + c.from.result) text a → Examined g.F.Field.ops (plan_of x.t x.n (vec_items c.args.text.rows)) (1 + (x.n - x.t)) text a =
    λ a d. subst (λ rows. Examined g.F.Field.ops (plan_of x.t x.n rows) (1 + (x.n - x.t)) text a) c.deref.ensures.value
    (examined_by g.F.Field.ops (plan_of x.t x.n c.deref.result.now) (vetted_plan c.in_ok-vetted.vetted) (1 + c.from.result) (1 + (x.n - x.t)) text a r.0 r.1 line d) in
    tells_more c.deal_key.result _ (λ s. Examined g.F.Field.ops (plan_of x.t x.n (vec_items c.args.text.rows)) (1 + (x.n - x.t)) text (Grants (string_bytes s))) _
    (λ a. Examined g.F.Field.ops (plan_of x.t x.n (vec_items c.args.text.rows)) (1 + (x.n - x.t)) text a)
    (λ s d. all (Grants (string_bytes s)) d) all c.deal_key.ensures
