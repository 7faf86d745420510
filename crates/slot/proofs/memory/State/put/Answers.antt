-- A card has room in the memory.
use Rattle.std.proofs.Common.{arith}
use Rattle.slot.proofs.Holding.{card_fits, number_below}
use Rattle.slot.proofs.memory.State.put.Goals as goal

pub lay-requires : goal.lay-requires
lay-requires c =
    let card = c.args.card in
    omega (arith, number_below card.heading card.number card.limits card.below, card.long, card_fits card.heading card.limits, c.from-place.ensures)
