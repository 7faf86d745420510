-- What each `?` lets through.
use Rattle.std.proofs.Common.{ap, ◌∙◌, subst}
use Rattle.std.proofs.lemmas.Result.{err_from_is_err_and}
use Rattle.lines.specs.Lines.{Kept, content, head, kind_of, parts_of, reading}
use Rattle.lines.specs.Readers.{ending, left, standing}
use Rattle.lines.specs.declared.kind.Kind.TheVariants as kind
use Rattle.slot.proofs.Reading.{opened-left, line_fault, more_fault, one_card}
use Rattle.slot.proofs.card.read_line.Goals as goal

pub returns-in_err-line : goal.returns-in_err-line
returns-in_err-line c =
    let p = err_from_is_err_and c.from_residual-in_err-line.result c.from_residual-in_err-line.ensures.1 in
    let s = standing c.in_ok-reader.reader in
    let o = c.in_ok-reader.ensures in
    let b = c.in_err-line.ensures in
    rw (p.1, p.2) (record {
      told = line_fault c.args.mark c.args.text.now s o c.in_err-line.field-0.0 (b.told ∙ ap (λ w. reading w (left s)) c.a_card.ensures);
      parts = tt;
      kept = tt;
    })

pub returns-in_err-end : goal.returns-in_err-end
returns-in_err-end c =
    let p = err_from_is_err_and c.from_residual-in_err-end.result c.from_residual-in_err-end.ensures.1 in
    let s = standing c.in_ok-reader.reader in
    let o = c.in_ok-reader.ensures in
    let a = c.in_ok-line.ensures in
    let b = c.in_err-end.ensures in
    rw (p.1, p.2) (record {
      told = more_fault c.args.mark c.args.text.now s o (content c.in_ok-line.line) c.in_err-end.field-0.0
          (a.told ∙ ap (λ w. reading w (left s)) c.a_card.ensures) (b ∙ ap (λ x. ending (left x)) a.after);
      parts = tt;
      kept = tt;
    })

pub returns : goal.returns
returns c =
    let s = standing c.in_ok-reader.reader in
    let o = c.in_ok-reader.ensures in
    let a = c.in_ok-line.ensures in
    let b = c.in_ok-end.ensures in
    let l = content c.in_ok-line.line in
    record {
      told = one_card c.args.mark c.args.text.now s o l c.in_ok-end.field-0
          (a.told ∙ ap (λ w. reading w (left s)) c.a_card.ensures) (b ∙ ap (λ x. ending (left x)) a.after);
      parts = a.parts ∙ ap (λ w. parts_of (kind_of w) (head (left s))) c.a_card.ensures
          ∙ ap (λ x. parts_of kind.Card (head x)) (opened-left c.args.text.now s o);
      kept = subst (λ w. Kept w l) c.a_card.ensures a.kept;
    }
