-- A card line's numbers, as the card has them.
use Rattle.std.proofs.Common.{Ok, sym, ap, ◌∙◌, subst}
use Rattle.lines.specs.Lines.{Kept, content, head, parts}
use Rattle.lines.specs.declared.wanted.Wanted.TheVariants as wanted
use Rattle.slot.proofs.CardLines.{same_content}
use Rattle.slot.proofs.card.Card.read.Goals as goal

pub returns : goal.returns
returns c =
    let a = c.in_ok-line.ensures in
    let i = c.in-Card in
    let mark = c.args.mark in
    let k = subst (λ l. Kept (wanted.Card mark) (content l)) i.is a.kept in
    let p = ap parts (sym i.is) ∙ a.parts in
    let same = same_content mark i.field i.t i.n i.number i.size i.deal i.«data» c.of.result (head c.args.text.now) k p c.of.ensures in
    ap Ok same ∙ ap (λ l. Ok (content l)) (sym i.is) ∙ a.told
