-- Open is handed the lowest cards, and its answer goes up.
use Rattle.std.proofs.Common.{◌≡◌, length, Ok, Err, sym, ap, ◌∙◌, subst, arith}
use Rattle.std.proofs.lemmas.Result.{err_from_is_err_and}
use Rattle.sharing.specs.Scheme.{Plan}
use Rattle.slot.specs.Holdings.{holding}
use Rattle.slot.specs.Unlocks.{Unlocked, raised}
use Rattle.slot.proofs.Putting.{Sound}
use Rattle.slot.proofs.Unlocking.{fair, fitting, held-room, unlocked_open}
use Rattle.slot.proofs.slot.Slot.open_lowest.Goals as goal

pub overflow_mul-length : goal.overflow_mul-length
overflow_mul-length g c =
    let s = holding c.args.self.now.state in
    let o = g.F.Field.ops in
    let p : Plan = g.P.Checked.plan c.args.plan.now in
    omega
    (arith, (held-room o p s c.from-t.result c.card_length.result (fitting o p s c.requires) c.args.self.now.limits (c.from-t.ensures ∙ c.threshold.ensures) c.card_length.ensures).1)

pub slice_bounds-data-end : goal.slice_bounds-data-end
slice_bounds-data-end g c =
    let s = holding c.args.self.now.state in
    let o = g.F.Field.ops in
    let p : Plan = g.P.Checked.plan c.args.plan.now in
    omega
    (arith, (held-room o p s c.from-t.result c.card_length.result (fitting o p s c.requires) c.args.self.now.limits (c.from-t.ensures ∙ c.threshold.ensures) c.card_length.ensures).1)

pub returns-in_err-open : goal.returns-in_err-open
returns-in_err-open g c =
    let v = c.args.self.now in
    let s = holding v.state in
    let o = g.F.Field.ops in
    let p : Plan = g.P.Checked.plan c.args.plan.now in
    let sound : Sound v.state = record { long = omega arith; eight = omega arith; limits = v.limits; phased = v.phased; below = v.below } in
    let key = c.args.key.now in
    let after = c.open.new.key in
    let size = length c.args.workspace.now in
    let inner = Err c.in_err-open.field-0.0 in
    let up = err_from_is_err_and c.from_residual.result c.from_residual.ensures.1 in
    let is : raised inner ≡ c.from_residual.result = sym (up.1 ∙ ap Err up.2) in
    record {
      answer =
          subst (Unlocked o p s key after size) is
          (unlocked_open o p s (fair v.state sound) key after c.from-t.result c.card_length.result c.size.result c.as_slice-cards.result.now
          c.gather-numbers.new.data size inner (fitting o p s c.requires) (c.from-t.ensures ∙ c.threshold.ensures) c.card_length.ensures c.size.ensures
          (c.as_slice-cards.ensures.value ∙ c.gather-numbers.ensures.numbers) c.gather-numbers.ensures.copied c.in_err-open.ensures.answer);
      zeros = c.in_err-open.ensures.zeros;
    }

pub returns : goal.returns
returns g c =
    let v = c.args.self.now in
    let s = holding v.state in
    let o = g.F.Field.ops in
    let p : Plan = g.P.Checked.plan c.args.plan.now in
    let sound : Sound v.state = record { long = omega arith; eight = omega arith; limits = v.limits; phased = v.phased; below = v.below } in
    let size = length c.args.workspace.now in
    let inner = Ok c.in_ok-open.field-0 in
    record {
      answer =
          unlocked_open o p s (fair v.state sound) c.args.key.now c.open.new.key c.from-t.result c.card_length.result c.size.result
          c.as_slice-cards.result.now c.gather-numbers.new.data size inner (fitting o p s c.requires) (c.from-t.ensures ∙ c.threshold.ensures) c.card_length.ensures c.size.ensures
          (c.as_slice-cards.ensures.value ∙ c.gather-numbers.ensures.numbers) c.gather-numbers.ensures.copied c.in_ok-open.ensures.answer;
      zeros = c.in_ok-open.ensures.zeros;
    }
