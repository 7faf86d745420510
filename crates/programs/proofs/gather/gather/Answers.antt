-- Each turn one more card is taken, or one is refused; the last card is handed over with all text that is left.
use Rattle.std.proofs.Common.{◌≡◌, ◌+◌, [], length, refl, ap, ◌∙◌, arith, length-take}
use Rattle.lines.specs.Lines.{head}
use Rattle.lines.specs.Readers.{left, standing}
use Rattle.lines.proofs.Skipping.{skipped-left}
use Rattle.slot.specs.Holdings.{holding}
use Rattle.programs.specs.Gathering.{Taken, Ungathered}
use Rattle.programs.proofs.Chain.{passes_on, tells_more}
use Rattle.programs.proofs.Heads.{left_short}
use Rattle.programs.proofs.Inserting.{last_refuses, last_takes, line_refuses, line_takes}
use Rattle.programs.proofs.gather.gather.Goals as goal

pub loop-k-init : goal.loop-k-init
loop-k-init g c = (c.requires.empty, refl)

pub put_in-requires : goal.put_in-requires
put_in-requires g c =
    let text = left (standing c.loop-k.reader) in
    omega (arith, (left_short c.loop-k.reader), ap length c.skip.ensures.value, length-take (length (head text) + 1) text)

pub returns-in_err-put_in : goal.returns-in_err-put_in
returns-in_err-put_in g c =
    passes_on c.from_residual.result _ _ _ _ c.from_residual.ensures.1
    (λ a r. line_refuses g.F.Field.ops c.args.t c.args.line (left (standing c.args.reader.now)) c.loop-k.k c.from.result (holding c.loop-k.slot.state)
    (left (standing c.loop-k.reader)) c.skip.result.now
    c.from.ensures (left_short c.loop-k.reader) c.loop-k.invariant a c.skip.ensures.value (omega (arith, c.loop-k-test.true)) r)
    c.in_err-put_in.ensures

pub loop-k-preserved : goal.loop-k-preserved
loop-k-preserved g c =
    let middle = left (standing c.loop-k.reader) in
    line_takes g.F.Field.ops c.args.t c.args.line (left (standing c.args.reader.now)) c.loop-k.k c.from.result
    (holding c.loop-k.slot.state) middle c.skip.result.now c.from.ensures (left_short c.loop-k.reader) c.loop-k.invariant
    (holding c.put_in.new.slot.state) (left (standing c.skip.new.self)) c.skip.ensures.value (ap left c.skip.ensures.after ∙ skipped-left (standing c.loop-k.reader)) c.in_ok-put_in.ensures

pub put_in-requires-2 : goal.put_in-requires-2
put_in-requires-2 g c = omega (arith, (left_short c.loop-k.reader), ap length c.rest.ensures)

pub returns : goal.returns
returns g c =
    let o = g.F.Field.ops in
    let s = holding c.loop-k.slot.state in
    let text = left (standing c.args.reader.now) in
    let middle = left (standing c.loop-k.reader) in
    let last : c.loop-k.k + 1 ≡ c.args.t = omega arith in
    let here : c.from-2.result ≡ c.loop-k.k = omega arith in
    tells_more c.put_in-2.result _ (λ u. Taken o c.args.t text (holding c.put_in-2.new.slot.state) []) _ (λ a. Ungathered o c.args.t c.args.line text a)
    (λ u r. last_takes o c.args.t c.args.line text c.loop-k.k c.from-2.result s middle c.rest.result.now here (left_short c.loop-k.reader) c.loop-k.invariant
    (holding c.put_in-2.new.slot.state) c.rest.ensures last r)
    (λ a r. last_refuses o c.args.t c.args.line text c.loop-k.k c.from-2.result s middle c.rest.result.now here (left_short c.loop-k.reader) c.loop-k.invariant
    a c.rest.ensures last r)
    c.put_in-2.ensures
