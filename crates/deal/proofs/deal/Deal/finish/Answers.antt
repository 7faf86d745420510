-- One card fewer is out, and one more is written.
use Rattle.std.proofs.Common.{refl, arith}
use Rattle.field.proofs.Limits.{within-parts}
use Rattle.deal.specs.declared.state.CardState.TheVariants.{Written}
use Rattle.deal.specs.Calls.{is_written}
use Rattle.deal.proofs.Cards.{tally_up, spent}
use Rattle.deal.proofs.deal.Deal.finish.Goals as goal

pub invariant_of-self : goal.invariant_of-self
invariant_of-self c =
    let self = c.args.self.now in
    let d = self.state in
    let j = c.args.card in
    let s = spent d j Written (within-parts d.t d.n self.limits).2 self.long self.below c.requires refl in
    let writes = tally_up is_written d.cards d.n j Written s.inside s.lt s.unwritten refl in
    record {
      limits = self.limits;
      some = self.some;
      size = self.size;
      long = s.long;
      below = s.below;
      balance = omega (arith, self.balance, s.outs);
      most = self.most;
    }
