-- The phase is right for the flags, and the flags count the cards.
use Rattle.std.proofs.Common.{sym, ap, ◌∙◌, arith}
use Rattle.slot.specs.Holdings.{card_length}
use Rattle.slot.specs.Phases.{first_heading, phase_of}
use Rattle.slot.proofs.Counting.{count_cards}
use Rattle.slot.proofs.Phasing.{settled}
use Rattle.slot.proofs.slot.Slot.phase.Goals as goal

pub returns : goal.returns
returns g c =
    let v = c.args.self.now in
    let s = v.state in
    let o = first_heading s.phase in
    settled s.phase _ v.phased ∙ ap (phase_of o) (sym (count_cards s.held s.memory (card_length o) (omega arith)))
