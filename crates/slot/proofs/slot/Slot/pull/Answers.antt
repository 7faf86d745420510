-- A card that is held is taken out, and what holds of the slot goes on holding.
use Rattle.std.proofs.Common.{◌≡◌, true, false, cond, not, get_or, is_some, Some, None, sym, ap, ◌∙◌, subst, arith}
use Rattle.slot.specs.Holdings.{holding}
use Rattle.slot.specs.Inserts.{held_at, pulled}
use Rattle.slot.specs.States.{taken}
use Rattle.slot.specs.Unlocks.{Coded}
use Rattle.slot.specs.declared.refusal.SlotRefusal.TheVariants.{NotHeld}
use Rattle.slot.proofs.Coding.{coded-pulled}
use Rattle.slot.proofs.Putting.{Sound, held_flag}
use Rattle.slot.proofs.Taking.{taken_holding, taken_sound}
use Rattle.slot.proofs.slot.Slot.pull.Goals as goal

pub returns-then-not-holds : goal.returns-then-not-holds
returns-then-not-holds g c =
    let s = c.args.self.now.state in
    let j = c.args.number in
    let off : false ≡ is_some (held_at (holding s) j) = c.if-not-holds.ensures ∙ sym (held_flag s j (omega arith)) in
    record {
      refusal = ap (λ b. cond (not b) (Some (NotHeld j)) None) off;
      holds = ap (λ b. cond b (pulled (holding s) j) (holding s)) off;
      memory = ap (λ b. cond b (taken s j) s) off;
    }

pub invariant_of-self : goal.invariant_of-self
invariant_of-self g c =
    let v = c.args.self.now in
    let o = g.F.Field.ops in
    let j = c.args.number in
    let sound : Sound v.state = record { long = omega arith; eight = omega arith; limits = v.limits; phased = v.phased; below = v.below } in
    let is : get_or v.state.held j false ≡ true = sym c.if-not-holds.ensures in
    let s = subst Sound (sym c.take_out.ensures) (taken_sound v.state sound j is) in
    let holds = ap holding c.take_out.ensures ∙ taken_holding v.state sound j is in
    record {
      limits = s.limits;
      phased = s.phased;
      below = s.below;
      coded = subst (Coded o) (sym holds) (coded-pulled o (holding v.state) j v.coded);
    }

pub returns : goal.returns
returns g c =
    let v = c.args.self.now in
    let s = v.state in
    let j = c.args.number in
    let sound : Sound s = record { long = omega arith; eight = omega arith; limits = v.limits; phased = v.phased; below = v.below } in
    let is : get_or s.held j false ≡ true = sym c.if-not-holds.ensures in
    let on : true ≡ is_some (held_at (holding s) j) = c.if-not-holds.ensures ∙ sym (held_flag s j (omega arith)) in
    record {
      refusal = ap (λ b. cond (not b) (Some (NotHeld j)) None) on;
      holds = ap holding c.take_out.ensures ∙ taken_holding s sound j is ∙ ap (λ b. cond b (pulled (holding s) j) (holding s)) on;
      memory = c.take_out.ensures ∙ ap (λ b. cond b (taken s j) s) on;
    }
