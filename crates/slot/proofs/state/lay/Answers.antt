-- The next number is laid behind those before it.
use Rattle.std.proofs.Common.{◌+◌, ◌++◌, length, take, drop, ap, ◌∙◌, arith}
use Rattle.std.proofs.lemmas.Iterator.Consumers.{YieldsList-at, YieldsList-from_enumerate, YieldsList-from_first}
use Rattle.std.proofs.lemmas.List.{length_push}
use Rattle.std.proofs.lemmas.List.Edits.{paste_more, paste_all}
use Rattle.lines.specs.Digits.{spelled}
use Rattle.lines.specs.Parts.{coming}
use Rattle.slot.proofs.Turning.{turned, turned_all}
use Rattle.slot.proofs.state.lay.Goals as goal

pub loop-i-preserved : goal.loop-i-preserved
loop-i-preserved c =
    let d = c.args.memory.now in
    let s = spelled c.args.«data».digits.now in
    let turn = turned s
    (YieldsList-at c.into_iter-i-iterator.ensures.into_iter_gives
    (YieldsList-from_enumerate (YieldsList-at c.enumerate-i-items.ensures.source (YieldsList-from_first (λ x. x) coming s c.numbers.ensures.numbers))
    c.enumerate-i-items.ensures.count)) c.loop-i.yielded c.loop-i.i-iterator
    c.loop-i.yielded_by c.next.result c.next.new.self c.in-Some.i c.in-Some.number c.in-Some.is c.next.ensures.steps in
    let e = paste_more d c.args.at s (length c.loop-i.yielded) c.in-Some.number (omega (arith, turn.1, c.requires)) turn.1 in
    let n = length_push c.loop-i.yielded (c.in-Some.i, c.in-Some.number) in
    let place = turn.0 in
    let here = turn.2 in
    cc

pub returns : goal.returns
returns c =
    let d = c.args.memory.now in
    let at = c.args.at in
    let s = spelled c.args.«data».digits.now in
    let e = turned_all s
    (YieldsList-at c.into_iter-i-iterator.ensures.into_iter_gives
    (YieldsList-from_enumerate (YieldsList-at c.enumerate-i-items.ensures.source (YieldsList-from_first (λ x. x) coming s c.numbers.ensures.numbers))
    c.enumerate-i-items.ensures.count)) c.loop-i.yielded c.loop-i.i-iterator
    c.loop-i.yielded_by c.next.result c.next.new.self c.in-None.is c.next.ensures.steps in
    c.loop-i.invariant ∙ paste_all d at s (length c.loop-i.yielded) e ∙ ap (λ k. take at d ++ (s ++ drop (at + k) d)) e
