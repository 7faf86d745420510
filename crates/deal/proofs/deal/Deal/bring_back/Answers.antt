-- One card fewer is out, and one blank more is spoiled.
use Rattle.std.proofs.Common.{refl, arith}
use Rattle.field.proofs.Limits.{within-parts}
use Rattle.deal.specs.declared.state.CardState.TheVariants.{Waiting}
use Rattle.deal.specs.Calls.{is_written}
use Rattle.deal.proofs.Cards.{tally_level, spent}
use Rattle.deal.proofs.deal.Deal.bring_back.Goals as goal

pub invariant_of-self : goal.invariant_of-self
invariant_of-self c =
    let self = c.args.self.now in
    let d = self.state in
    let j = c.args.card in
    let s = spent d j Waiting (within-parts d.t d.n self.limits).2 self.long self.below c.requires refl in
    let writes = tally_level is_written d.cards d.n j Waiting s.inside s.unwritten in
    record {
      limits = self.limits;
      some = self.some;
      size = self.size;
      long = s.long;
      below = s.below;
      balance = omega (arith, self.balance, s.outs);
      most = self.most;
    }
