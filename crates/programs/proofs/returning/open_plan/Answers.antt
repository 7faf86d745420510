-- The refusal of the check, a card that is not taken, or what comes of the slot.
use Rattle.std.proofs.Common.{◌+◌, ◌-◌, vec_items, string_bytes, ap, ◌∙◌, subst, arith}
use Rattle.sharing.specs.Scheme.{plan_of}
use Rattle.lines.specs.Readers.{left, standing}
use Rattle.slot.specs.Holdings.{holding}
use Rattle.programs.specs.Answers.Answer.{Grants}
use Rattle.programs.specs.Gathering.{Ungathered}
use Rattle.programs.specs.Opening.{Tried, Unlocking}
use Rattle.programs.specs.Opening.Tried.{gathered, unadmitted, ungathered}
use Rattle.programs.specs.Vetting.{Fit, Unadmitted}
use Rattle.programs.proofs.Chain.{passes_on, tells_more}
use Rattle.programs.proofs.Inserting.{taken-first}
use Rattle.programs.proofs.returning.open_plan.Goals as goal

pub returns-in_err-admitted : goal.returns-in_err-admitted
returns-in_err-admitted g c =
    let x = c.args.text.plan in
    passes_on c.from_residual.result _ _ _ _ c.from_residual.ensures.1
    (λ a u. unadmitted (subst (λ rows. Unadmitted g.F.Field.ops (plan_of x.t x.n rows) a) c.deref.ensures.value u)) c.in_err-admitted.ensures

pub returns-in_err-gather : goal.returns-in_err-gather
returns-in_err-gather g c =
    let x = c.args.text.plan in
    let fit = subst (λ rows. Fit g.F.Field.ops (plan_of x.t x.n rows)) c.deref.ensures.value c.in_ok-admitted.ensures.0 in
    passes_on c.from_residual-in_err-gather.result _ _ _ _ c.from_residual-in_err-gather.ensures.1
    (λ a u. ungathered fit (subst (λ l. Ungathered g.F.Field.ops x.t l (left (standing c.args.text.reader)) a) (ap (λ y. 1 + y) c.from.ensures) u))
    c.in_err-gather.ensures

pub open_slot-requires : goal.open_slot-requires
open_slot-requires g c =
    taken-first g.F.Field.ops (left (standing c.args.text.reader)) c.args.text.plan.t (holding c.gather.new.slot.state) _ (omega (arith, c.args.text.plan.least)) c.in_ok-gather.ensures

pub returns : goal.returns
returns g c =
    let o = g.F.Field.ops in
    let x = c.args.text.plan in
    let a = c.in_ok-admitted.ensures in
    let fit = subst (λ rows. Fit o (plan_of x.t x.n rows)) c.deref.ensures.value a.0 in
    let same = a.1 ∙ ap (λ rows. plan_of x.t x.n rows) c.deref.ensures.value in
    let plan = plan_of x.t x.n (vec_items c.args.text.rows) in
    let text = left (standing c.args.text.reader) in
    let s = holding c.gather.new.slot.state in
    let line = 1 + (x.n - x.t) in
    tells_more c.open_slot.result _ (λ y. Tried o plan line text (Grants (string_bytes y))) _ (λ b. Tried o plan line text b)
    (λ y u. gathered fit s c.in_ok-gather.ensures (subst (λ q. Unlocking o q s (Grants (string_bytes y))) same u))
    (λ b u. gathered fit s c.in_ok-gather.ensures (subst (λ q. Unlocking o q s b) same u))
    c.open_slot.ensures
