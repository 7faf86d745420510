-- The word's place is within the matrix.
use Rattle.std.proofs.Common.{◌+◌, ◌*◌, ◌/◌, ◌%◌, ◌<◌, arith}
use Rattle.std.proofs.lemmas.Nat.{mod_below, div_below}
use Rattle.sharing.proofs.Stores.{within}
use Rattle.std.proofs.lemmas.Grind.{common_steps}
use Rattle.opening.proofs.quorum.Quorum.add_words.Goals as goal

pub bounds-matrix-y : goal.bounds-matrix-y
bounds-matrix-y g c =
    let q = c.args.self.now in
    let some : 0 < q.lanes = omega arith in
    let inside : c.loop-y.y < q.plan.t * q.lanes = omega arith in
    let row = div_below c.loop-y.y q.lanes q.plan.t some inside in
    let column = mod_below c.loop-y.y q.lanes some in
    let place = within q.plan.t (q.plan.t + q.lanes) (c.loop-y.y / q.lanes) (q.plan.t + c.loop-y.y % q.lanes) row (omega arith) in
    omega arith

pub loop-y-preserved : goal.loop-y-preserved
loop-y-preserved g c = (
  λ k h. grind (arith, common_steps, c.loop-y.invariant.0 k, c.loop-y.invariant.1 k),
  λ k h. grind (arith, common_steps, c.loop-y.invariant.1 k),
)
