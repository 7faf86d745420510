-- Both ways out: what stands against the plan, or what comes of the lowest cards.
use Rattle.std.proofs.Common.{◌≡◌, length, Some, None, Err, sym, refl, subst, arith}
use Rattle.field.specs.Refusals.{foremost}
use Rattle.sharing.specs.Scheme.{Plan}
use Rattle.slot.specs.Holdings.{holding}
use Rattle.slot.specs.Unlocks.{listed, plan_table}
use Rattle.slot.proofs.Putting.{Sound}
use Rattle.slot.proofs.Returning.{promised}
use Rattle.slot.proofs.Unlocking.{fair, unlocked_refusal}
use Rattle.slot.proofs.slot.Slot.unlock.Goals as goal

pub returns-in-Err : goal.returns-in-Err
returns-in-Err g c =
    let v = c.args.self.now in
    let s = holding v.state in
    let o = g.F.Field.ops in
    let p : Plan = g.P.Checked.plan c.args.plan.now in
    let sound : Sound v.state = record { long = omega arith; eight = omega arith; limits = v.limits; phased = v.phased; below = v.below } in
    let key = c.args.key.now in
    let size = length c.args.workspace.now in
    let refusal = c.in-Err.refusal in
    let found = subst (λ q. listed (Some refusal) ≡ foremost (plan_table o q s)) c.lent.ensures c.in-Err.ensures in
    let q =
    promised g.met.F.Field.lawful p s (fair v.state sound) key key size (Err refusal)
    (unlocked_refusal o p s (fair v.state sound) key key size refusal found refl) in
    record { answer = q.answer; only = q.only; deals = q.deals; zeros = c.leave.ensures; codes = q.codes v.coded }

pub open_lowest-requires : goal.open_lowest-requires
open_lowest-requires g c =
    subst (λ p. foremost (plan_table g.F.Field.ops p (holding c.args.self.now.state)) ≡ None) c.lent.ensures (sym c.in_default.ensures)

pub returns : goal.returns
returns g c =
    let v = c.args.self.now in
    let sound : Sound v.state = record { long = omega arith; eight = omega arith; limits = v.limits; phased = v.phased; below = v.below } in
    let q =
    promised g.met.F.Field.lawful (g.P.Checked.plan c.args.plan.now) (holding v.state) (fair v.state sound) c.args.key.now
    c.open_lowest.new.key (length c.args.workspace.now) c.open_lowest.result c.open_lowest.ensures.answer in
    record { answer = q.answer; only = q.only; deals = q.deals; zeros = c.open_lowest.ensures.zeros; codes = q.codes v.coded }
