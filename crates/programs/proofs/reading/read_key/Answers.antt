-- A key line by what its reading says.
use Rattle.std.proofs.Common.{sym, ap, ◌∙◌}
use Rattle.lines.specs.Lines.{reading}
use Rattle.lines.specs.Readers.{left, standing}
use Rattle.programs.proofs.Chain.{passes_on}
use Rattle.programs.proofs.Heads.{key_head}
use Rattle.programs.proofs.reading.read_key.Goals as goal

pub returns-in_err-mark : goal.returns-in_err-mark
returns-in_err-mark c =
    passes_on c.from_residual.result _ _ _ _ c.from_residual.ensures.1
    (λ a u. (u.0, ap (λ w. reading w (left (standing c.args.reader.now))) (sym c.a_key.ensures) ∙ u.1, u.2)) c.in_err-mark.ensures.told

pub returns : goal.returns
returns c =
    let r = c.in_ok-mark.ensures in
    key_head c.a_key.result c.in_ok-mark.field-0 c.in-Key.mark c.in-Key.data c.of.result.number
    (left (standing c.args.reader.now)) (left (standing c.read_line.new.reader))
    c.a_key.ensures c.in-Key.is r.told r.parts r.kept r.again c.of.ensures
