-- A card that is read and not refused is put in, and what holds of the slot goes on holding.
use Rattle.std.proofs.Common.{◌≡◌, Ok, sym, ap, ◌∙◌, subst, arith}
use Rattle.slot.specs.Cards.{card_content}
use Rattle.slot.specs.Holdings.{holding}
use Rattle.slot.specs.Inserts.{card_read}
use Rattle.slot.specs.Unlocks.{Coded}
use Rattle.slot.proofs.Coding.{coded-inserted}
use Rattle.slot.proofs.Inserting.{card_holding, card_sound, granted, held_after, memory_after}
use Rattle.slot.proofs.Putting.{Sound}
use Rattle.slot.proofs.slot.Slot.insert.Goals as goal

pub invariant_of-self : goal.invariant_of-self
invariant_of-self g c =
    let v = c.args.self.now in
    let o = g.F.Field.ops in
    let card = c.in_ok-card.card in
    let none = sym c.in_ok-check_card.ensures in
    let sound : Sound v.state = record { long = omega arith; eight = omega arith; limits = v.limits; phased = v.phased; below = v.below } in
    let s = subst Sound (sym c.put.ensures) (card_sound o o.mark v.state sound card none) in
    let holds = ap holding c.put.ensures ∙ card_holding o o.mark v.state sound card none in
    record {
      limits = s.limits;
      phased = s.phased;
      below = s.below;
      coded = subst (Coded o) (sym holds) (coded-inserted o (holding v.state) (card_content o.mark card) none v.coded);
    }

pub returns : goal.returns
returns g c =
    let v = c.args.self.now in
    let o = g.F.Field.ops in
    let card = c.in_ok-card.card in
    let text = c.args.text.now in
    let sound : Sound v.state = record { long = omega arith; eight = omega arith; limits = v.limits; phased = v.phased; below = v.below } in
    let none = sym c.in_ok-check_card.ensures in
    let read : Ok (card_content o.mark card) ≡ card_read o.mark text =
    subst (λ m. Ok (card_content m card) ≡ card_read m text) c.mark.ensures c.in_ok-card.ensures in
    let k = card_content o.mark card in
    record {
      refusal = granted o v.state text k read none;
      holds = ap holding c.put.ensures ∙ card_holding o o.mark v.state sound card none ∙ held_after o v.state text k read none;
      memory = c.put.ensures ∙ memory_after o v.state text k read none;
    }
