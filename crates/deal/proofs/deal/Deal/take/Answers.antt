-- A card that waited is out: one card more is out, and as many as before are written.
use Rattle.std.proofs.Common.{◌<◌, length, refl, ap, ◌∙◌, arith, length-set}
use Rattle.field.proofs.Limits.{within-parts}
use Rattle.deal.specs.declared.state.CardState.TheVariants.{Out}
use Rattle.deal.specs.Calls.{is_out, is_written}
use Rattle.deal.proofs.Cards.{tally_up, tally_level, still_below}
use Rattle.deal.proofs.deal.Deal.take.Goals as goal

pub invariant_of-self : goal.invariant_of-self
invariant_of-self c =
    let self = c.args.self.now in
    let d = self.state in
    let j = c.args.j in
    let lt : j < d.n = omega arith in
    let limits = within-parts d.t d.n self.limits in
    let within : j < length d.cards = omega (arith, self.long) in
    let waits = c.in-Waiting.is in
    let outs = tally_up is_out d.cards d.n j Out within lt (ap is_out waits) refl in
    let writes = tally_level is_written d.cards d.n j Out within (ap is_written waits) in
    record {
      limits = self.limits;
      some = self.some;
      size = self.size;
      long = length-set d.cards j Out ∙ self.long;
      below = still_below is_out d.cards d.n j Out within lt self.below;
      balance = omega (arith, self.balance);
      most = omega arith;
    }
