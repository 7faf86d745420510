-- The text's fault, or what the numbers give.
use Rattle.std.proofs.Common.{Err, sym, ap, ◌∙◌}
use Rattle.std.proofs.lemmas.Result.{err_from_is_err_and}
use Rattle.lines.specs.Faults.{first}
use Rattle.lines.specs.Lines.{text_faults, told}
use Rattle.lines.proofs.Contents.{faulty_text}
use Rattle.lines.proofs.Readings.{unless_err}
use Rattle.lines.proofs.read.checked_line.Goals as goal

pub returns-in_err-check_text-clause-told : goal.returns-in_err-check_text-clause-told
returns-in_err-check_text-clause-told c =
    let w = c.args.wanted in
    let l = c.args.line.now in
    let e = ap (λ k. first (text_faults k l)) (sym c.kind.ensures) ∙ unless_err (first (text_faults c.kind.result l)) (tt {0}) c.in_err-check_text.field-0.0 (sym c.in_err-check_text.ensures) in
    let h = err_from_is_err_and c.from_residual.result c.from_residual.ensures.1 in
    ap told h.1 ∙ ap (λ f. Err f) h.2 ∙ sym (faulty_text w l c.in_err-check_text.field-0.0 e)
