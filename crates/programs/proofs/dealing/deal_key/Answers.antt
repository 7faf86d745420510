-- The key lines' fault, text after them, Begin's refusal, or all cards.
use Rattle.std.specs.Result.{is_ok}
use Rattle.std.proofs.Common.{◌≡◌, false, rules, string_bytes, sym, refl, ap, ◌∙◌, subst}
use Rattle.plan_check.specs.Plans.{vetted_plan}
use Rattle.lines.specs.Readers.{ending, left, standing}
use Rattle.programs.specs.Answers.{no_line}
use Rattle.programs.specs.Answers.Answer.{Grants, Refuses}
use Rattle.programs.specs.Dealing.{Dealt}
use Rattle.programs.specs.Dealing.Dealt.{unkeyed, more_text}
use Rattle.programs.specs.Keys.{KeyLines, Unkeyed}
use Rattle.programs.proofs.Chain.{dealt_grants, dealt_refuses, ended, passes_on, tells_more, turns_into, unended}
use Rattle.programs.proofs.dealing.deal_key.Goals as goal

pub returns-in_err-text : goal.returns-in_err-text
returns-in_err-text g c =
    passes_on c.from_residual.result _ _ _ _ c.from_residual.ensures.1
    (λ a u. unkeyed (subst (λ x. Unkeyed x c.args.line (left (standing c.args.reader.now)) a) c.threshold.ensures u)) c.in_err-text.ensures

pub returns-in_err-map_err : goal.returns-in_err-map_err
returns-in_err-map_err g c =
    let r = c.in_ok-text.ensures in
    let text = left (standing c.args.reader.now) in
    let rest = left (standing c.read_store.new.reader) in
    let some : is_ok (ending rest) ≡ false = ap is_ok (sym c.end.ensures) ∙ sym c.map_err.ensures.variant ∙ ap is_ok c.in_err-map_err.was in
    turns_into c.from_residual-in_err-map_err.result (Refuses 0x46 0 no_line) _ _ (search rules)
    (more_text c.in_ok-text.text.mark.number r.0 r.1 rest (subst (λ x. KeyLines x c.in_ok-text.text.mark.number r.0 r.1 text rest) c.threshold.ensures r.2)
    (unended rest some) refl)

pub returns : goal.returns
returns g c =
    let r = c.in_ok-text.ensures in
    let k = c.in_ok-text.text in
    let p = vetted_plan c.args.plan.now in
    let text = left (standing c.args.reader.now) in
    let rest = left (standing c.read_store.new.reader) in
    let nil = ended rest (ap is_ok (sym c.end.ensures) ∙ sym c.map_err.ensures.variant ∙ ap is_ok c.in_ok-map_err.was) in
    tells_more c.write_cards.result _ (λ s. Dealt g.F.Field.ops p c.args.line text (Grants (string_bytes s))) _ (λ a. Dealt g.F.Field.ops p c.args.line text a)
    (λ s h. dealt_grants g.F.Field.ops p c.threshold.result k.mark.number k.size c.args.line r.0 r.1 text rest _
    c.threshold.ensures r.2 r.3 r.4 nil (string_bytes s) h)
    (λ a h. dealt_refuses g.F.Field.ops p c.threshold.result k.mark.number k.size c.args.line r.0 r.1 text rest _
    c.threshold.ensures r.2 r.3 r.4 nil a h)
    c.write_cards.ensures
