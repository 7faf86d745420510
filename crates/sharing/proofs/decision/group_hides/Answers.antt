-- The matrix fits the workspace, what is laid out is the hiding matrix, and it decides.
use Rattle.std.proofs.Common.{ℕ, ◌-◌, ◌*◌, List, sym, ◌∙◌, subst}
use Rattle.std.proofs.lemmas.List.{length-take-le}
use Rattle.linear.specs.Pivots.{entry}
use Rattle.linear.specs.Reductions.{Matrix}
use Rattle.sharing.specs.Lent.{lent_plan}
use Rattle.sharing.specs.Systems.{OnlyZero, lane_size, hiding_matrix}
use Rattle.sharing.proofs.Hiding.{hides_exactly}
use Rattle.sharing.proofs.LaidOut.{hiding_room, rest-kept, hiding_codes, only_zero_laid_out}
use Rattle.sharing.proofs.decision.group_hides.Goals as goal

pub slice_bounds-matrix-end : goal.slice_bounds-matrix-end
slice_bounds-matrix-end g c = rw c.from-t.ensures (hiding_room c.args.plan.now.sound c.args.workspace.now c.requires.room)

pub slice_bounds-matrix-end-2 : goal.slice_bounds-matrix-end-2
slice_bounds-matrix-end-2 g c =
    let size = lane_size (lent_plan c.args.plan.now.plan) in
    rw c.from-t.ensures
    (sym (length-take-le (size * size) c.args.workspace.now (hiding_room c.args.plan.now.sound c.args.workspace.now c.requires.room)))

pub lay_hiding-requires : goal.lay_hiding-requires
lay_hiding-requires g c =
    let size = lane_size (lent_plan c.args.plan.now.plan) in
    record {
      sizes = (
        c.requires.cards.0,
        rw c.from-t.ensures
            (length-take-le (size * size) c.args.workspace.now
            (hiding_room c.args.plan.now.sound c.args.workspace.now c.requires.room)),
      );
    }

pub sends_only_zero-requires : goal.sends_only_zero-requires
sends_only_zero-requires g c =
    let p = lent_plan c.args.plan.now.plan in
    rw c.from-t.ensures
    (subst (Matrix g.F.Field.ops (lane_size p) (lane_size p)) (sym c.lay_hiding.ensures)
    (hiding_codes g.met.F.Field.lawful p c.args.plan.now.sound c.args.group.now))

pub returns : goal.returns
returns g c =
    let laws = g.met.F.Field.lawful in
    let p = lent_plan c.args.plan.now.plan in
    let size = lane_size p in
    let P : ℕ → List ℕ → Type 0 = λ t s. OnlyZero g.F.Field.ops ((t - 1) * t) (entry ((t - 1) * t) s) in
    let same = only_zero_laid_out g.F.Field.ops size (hiding_matrix p c.args.group.now) in
    let exactly = (hides_exactly laws p c.args.group.now c.args.plan.now.sound c.requires.cards).0 in
    let decided = c.sends_only_zero.ensures in
    record {
      yes = λ is. exactly.1 (same.0 (subst (P p.t) c.lay_hiding.ensures (subst (λ t. P t c.lay_hiding.new.matrix) c.from-t.ensures (decided.yes is))));
      no = λ is hides.
          decided.no is (subst (λ t. P t c.lay_hiding.new.matrix) (sym c.from-t.ensures) (subst (P p.t) (sym c.lay_hiding.ensures) (same.1 (exactly.0 hides))));
      rest = rw c.from-t.ensures
          (rest-kept (size * size) c.sends_only_zero.new.matrix c.args.workspace.now
          (hiding_room c.args.plan.now.sound c.args.workspace.now c.requires.room) (c.sends_only_zero.auto.matrix ∙ rw c.from-t.ensures at c.lay_hiding.auto.matrix));
    }
