-- The first line of the plan's table that holds is the refusal.
use Rattle.std.proofs.Common.{ℕ, Some, Err, sym, ap, ◌∙◌, arith}
use Rattle.field.specs.Refusals.{listing}
use Rattle.sharing.specs.Lent.{lent_plan}
use Rattle.std.proofs.lemmas.Result.{err_from_is_err_and}
use Rattle.slot.specs.Holdings.{card_length, holding}
use Rattle.slot.specs.Phases.{first_heading}
use Rattle.slot.specs.Unlocks.{told}
use Rattle.slot.proofs.Counting.{count_cards}
use Rattle.slot.proofs.Unlocking.{fault_refused, few_refused, nothing_refused, other_refused}
use Rattle.slot.proofs.memory.State.check_plan.Goals as goal

pub returns-in_err-faultless : goal.returns-in_err-faultless
returns-in_err-faultless g c =
    let a = c.args in
    let up = err_from_is_err_and c.from_residual.result c.from_residual.ensures.1 in
    let e = c.in_err-faultless.field-0.0 in
    ap told (up.1 ∙ ap Err up.2)
    ∙ sym (fault_refused g.F.Field.ops (lent_plan a.plan.now) (holding a.self.now) (listing e) (sym c.in_err-faultless.ensures))

pub returns-then-is_other_plan : goal.returns-then-is_other_plan
returns-then-is_other_plan g c =
    let a = c.args in
    sym
    (other_refused g.F.Field.ops (lent_plan a.plan.now) (holding a.self.now) (sym c.in_ok-faultless.ensures)
    (sym c.if-is_other_plan.ensures))

pub returns-then-held-plan : goal.returns-then-held-plan
returns-then-held-plan g c =
    let a = c.args in
    let s = a.self.now in
    let many = count_cards s.held s.memory (card_length (first_heading s.phase)) (omega arith) in
    sym
    (few_refused g.F.Field.ops (lent_plan a.plan.now) (holding s) (sym c.in_ok-faultless.ensures) (sym c.if-is_other_plan.ensures)
    (omega (arith, many, c.count-held.ensures, c.if-held-plan.true))
    ∙ ap {A = ℕ} (λ n. Some (0x54, n)) (many ∙ sym c.count-held.ensures))

pub returns : goal.returns
returns g c =
    let a = c.args in
    let s = a.self.now in
    let many = count_cards s.held s.memory (card_length (first_heading s.phase)) (omega arith) in
    sym
    (nothing_refused g.F.Field.ops (lent_plan a.plan.now) (holding s) (sym c.in_ok-faultless.ensures) (sym c.if-is_other_plan.ensures)
    (omega (arith, many, c.count-held.ensures, c.if-held-plan.false)))
