-- The block grows by the line that was read.
use Rattle.std.proofs.Common.{◌+◌, ◌++◌, vec_items, sym, ap, ◌∙◌, append_assoc, arith}
use Rattle.lines.specs.Lines.{content, kind_of}
use Rattle.lines.specs.Readers.{left, standing}
use Rattle.lines.specs.Writing.{written}
use Rattle.programs.specs.Answers.{at_line}
use Rattle.programs.specs.Texts.{width}
use Rattle.programs.proofs.Blocks.{block_more}
use Rattle.programs.proofs.Chain.{passes_on}
use Rattle.programs.proofs.Heads.{plain_line}
use Rattle.programs.proofs.reading.read_block.Goals as goal

pub loop-i-preserved : goal.loop-i-preserved
loop-i-preserved c =
    let r = c.in_ok-line.ensures in
    let l = c.in_ok-line.line in
    let w = c.args.wanted in
    let ys = (content l).numbers in
    let mid = left (standing c.loop-i.reader) in
    let rest = left (standing c.read_line.new.reader) in
    let inv = c.loop-i.invariant in
    let plain = plain_line w c.requires.plain l r.kept in (
      inv.0 ++ ys,
      c.in_ok-push_data.ensures
          ∙ ap (λ v. v ++ ys) inv.1
          ∙ append_assoc (vec_items c.args.numbers.now) inv.0 ys,
      block_more (kind_of w) (width w) c.loop-i.i (left (standing c.args.reader.now)) inv.0 mid ys rest inv.2 plain.1 plain.2
          (sym r.again ∙ ap (λ x. written x ++ rest) plain.0),
    )

pub returns-in_err-line : goal.returns-in_err-line
returns-in_err-line c =
    passes_on c.from_residual.result _ _ _ _ c.from_residual.ensures.1
    (λ a u. (
      c.loop-i.i,
      u.0,
      record { below = omega (arith, c.loop-i-test.true); xs = c.loop-i.invariant.0; rest = left (standing c.loop-i.reader); block = c.loop-i.invariant.2; breaks = u.1 },
      u.2 ∙ ap (λ n. at_line u.0 (c.args.first + n)) c.from.ensures,
    ))
    c.in_err-line.ensures.told
