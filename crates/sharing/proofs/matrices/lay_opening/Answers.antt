-- Row and place of an index are within the matrix, and a slice that is filled is the matrix laid out.
use Rattle.std.proofs.Common.{◌≡◌, ℕ, ◌*◌, ◌/◌, ◌%◌, ap, subst, arith}
use Rattle.std.proofs.lemmas.List.FromFn.{fill_by_all}
use Rattle.sharing.specs.Lent.{lent_plan}
use Rattle.sharing.specs.Systems.{opening_matrix, laid_out}
use Rattle.sharing.proofs.matrices.lay_opening.Goals as goal

pub returns : goal.returns
returns g c =
    let t = c.from-t.result in
    let square = ap (λ s. s * s) c.from-t.ensures in
    let a = opening_matrix (lent_plan c.args.plan.now.plan) c.args.group.now c.args.i in
    let entry : ℕ → ℕ = λ k. a (k / t) (k % t) in
    subst (λ s. c.loop-x.matrix ≡ laid_out s a) c.from-t.ensures
    (fill_by_all entry c.loop-x.matrix (t * t) 0 (omega arith) (λ k h. c.loop-x.invariant k (omega arith)))
