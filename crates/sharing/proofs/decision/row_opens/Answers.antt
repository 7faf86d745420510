-- What is laid out is the opening matrix, a matrix of codes.
use Rattle.std.proofs.Common.{ℕ, List, sym, subst}
use Rattle.linear.specs.Pivots.{entry}
use Rattle.linear.specs.Reductions.{Matrix}
use Rattle.sharing.specs.Lent.{lent_plan}
use Rattle.sharing.specs.Systems.{OnlyZero, opening_matrix}
use Rattle.sharing.proofs.LaidOut.{opening_codes, only_zero_laid_out}
use Rattle.sharing.proofs.decision.row_opens.Goals as goal

pub sends_only_zero-requires : goal.sends_only_zero-requires
sends_only_zero-requires g c =
    let p = lent_plan c.args.plan.now.plan in
    rw c.from.ensures
    (subst (Matrix g.F.Field.ops p.t p.t) (sym c.lay_opening.ensures)
    (opening_codes g.met.F.Field.lawful p c.args.plan.now.sound c.args.group.now _))

pub returns : goal.returns
returns g c =
    let p = lent_plan c.args.plan.now.plan in
    let a = opening_matrix p c.args.group.now c.args.i in
    let P : ℕ → List ℕ → Type 0 = λ t s. OnlyZero g.F.Field.ops t (entry t s) in
    let same = only_zero_laid_out g.F.Field.ops p.t a in
    let decided = c.sends_only_zero.ensures in
    record {
      yes = λ is. same.0 (subst (P p.t) c.lay_opening.ensures (subst (λ t. P t c.lay_opening.new.matrix) c.from.ensures (decided.yes is)));
      no = λ is only. decided.no is (subst (λ t. P t c.lay_opening.new.matrix) (sym c.from.ensures) (subst (P p.t) (sym c.lay_opening.ensures) (same.1 only)));
    }
