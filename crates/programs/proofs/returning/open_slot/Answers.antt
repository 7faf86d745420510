-- What the slot refuses, or the line of the key that it gave.
use Rattle.std.proofs.Common.{ℕ, rules, string_bytes, sym, ◌∙◌}
use Rattle.std.proofs.lemmas.List.{length-replicate}
use Rattle.std.proofs.lemmas.Result.{MatchResult-at_ok, MatchResult-at_err}
use Rattle.plan_check.specs.Plans.{admitted_plan}
use Rattle.slot.specs.Holdings.{holding}
use Rattle.programs.proofs.Chain.{no_memory, passes_on}
use Rattle.programs.proofs.Unlatching.{told_key, told_stop}
use Rattle.programs.proofs.returning.open_slot.Goals as goal

pub returns-in_err-map_err : goal.returns-in_err-map_err
returns-in_err-map_err g c =
    passes_on c.from_residual-in_err-map_err.result _ _ _ _ c.from_residual-in_err-map_err.ensures.1 (λ a u. u)
    (told_stop g.F.Field.ops (admitted_plan c.args.plan.now) (holding c.args.slot.now.state) c.unwrap-heading.result (sym c.heading.ensures ∙ c.unwrap-heading.ensures)
    c.deref_mut.result.now c.unlock.new.key c.from.result _ c.from.ensures
    (c.deref_mut.ensures.value ∙ c.in_ok-place.ensures.items_if_clones_equal (search rules)) (length-replicate {A = ℕ} 4096 0)
    c.unlock.result c.map_err.result (λ v is. MatchResult-at_ok _ _ v is c.map_err.ensures.cases) (λ e is. MatchResult-at_err _ _ e is c.map_err.ensures.cases)
    c.unlock.ensures.answer _ c.in_err-map_err.was)

pub returns-in_err-text : goal.returns-in_err-text
returns-in_err-text g c = no_memory c.from_residual-in_err-text.result _ _ c.from_residual-in_err-text.ensures.1

pub returns : goal.returns
returns g c =
    told_key g.F.Field.ops (admitted_plan c.args.plan.now) (holding c.args.slot.now.state) c.unwrap-heading.result (sym c.heading.ensures ∙ c.unwrap-heading.ensures)
    c.deref_mut.result.now c.unlock.new.key c.from.result _ c.from.ensures
    (c.deref_mut.ensures.value ∙ c.in_ok-place.ensures.items_if_clones_equal (search rules)) (length-replicate {A = ℕ} 4096 0)
    c.unlock.result c.map_err.result (λ v is. MatchResult-at_ok _ _ v is c.map_err.ensures.cases) (λ e is. MatchResult-at_err _ _ e is c.map_err.ensures.cases)
    c.unlock.ensures.answer _ (string_bytes c.in_ok-text.field-0) c.in_ok-text.ensures.bytes c.in_ok-map_err.was
