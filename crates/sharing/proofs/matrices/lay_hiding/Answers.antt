-- Equation and unknown of an index are within the matrix, and a slice that is filled is the matrix laid out.
use Rattle.std.proofs.Common.{◌≡◌, ℕ, ◌-◌, ◌*◌, ◌/◌, ◌%◌, ap, subst, arith}
use Rattle.std.proofs.lemmas.List.FromFn.{fill_by_all}
use Rattle.sharing.specs.Lent.{lent_plan}
use Rattle.sharing.specs.Systems.{hiding_matrix, laid_out}
use Rattle.sharing.proofs.matrices.lay_hiding.Goals as goal

pub returns : goal.returns
returns g c =
    let t = c.from-t.result in
    let square = ap (λ s. ((s - 1) * s) * ((s - 1) * s)) c.from-t.ensures in
    let size : ℕ = (t - 1) * t in
    let a = hiding_matrix (lent_plan c.args.plan.now.plan) c.args.group.now in
    let entry : ℕ → ℕ = λ k. a (k / size) (k % size) in
    subst (λ s. c.loop-x.matrix ≡ laid_out ((s - 1) * s) a) c.from-t.ensures
    (fill_by_all entry c.loop-x.matrix (size * size) 0 (omega arith) (λ k h. c.loop-x.invariant k (omega arith)))
