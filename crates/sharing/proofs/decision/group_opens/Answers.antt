-- The matrix fits the workspace, and the rows of the cards decide.
use Rattle.std.proofs.Common.{◌*◌, sym, ◌∙◌, arith, below_more}
use Rattle.std.proofs.lemmas.List.{length-take-le}
use Rattle.std.proofs.lemmas.Bool.{true≢false, false≢true}
use Rattle.sharing.specs.Lent.{lent_plan}
use Rattle.sharing.specs.Systems.{OnlyZero, opening_matrix}
use Rattle.sharing.proofs.LaidOut.{opening-room, rest-kept}
use Rattle.sharing.proofs.OneWord.{opens_exactly}
use Rattle.sharing.proofs.decision.group_opens.Goals as goal

pub slice_bounds-matrix-end : goal.slice_bounds-matrix-end
slice_bounds-matrix-end g c = rw c.from-t.ensures (opening-room c.args.plan.now.sound c.args.workspace.now c.requires.room)

pub slice_bounds-matrix-end-2 : goal.slice_bounds-matrix-end-2
slice_bounds-matrix-end-2 g c =
    rw c.from-t.ensures
    (sym
    (length-take-le (c.args.plan.now.plan.t * c.args.plan.now.plan.t) c.args.workspace.now
    (opening-room c.args.plan.now.sound c.args.workspace.now c.requires.room)))

pub row_opens-requires : goal.row_opens-requires
row_opens-requires g c = record {
  sizes = (
    omega arith,
    (
      c.requires.cards.0,
      c.loop-i.auto.matrix
          ∙ rw c.from-t.ensures
          (length-take-le (c.args.plan.now.plan.t * c.args.plan.now.plan.t) c.args.workspace.now
          (opening-room c.args.plan.now.sound c.args.workspace.now c.requires.room)),
    ),
  );
}

pub returns-then-not-row_opens : goal.returns-then-not-row_opens
returns-then-not-row_opens g c =
    let p = lent_plan c.args.plan.now.plan in
    record {
      yes = λ is. absurd (false≢true is);
      no = λ is opens.
          c.row_opens.ensures.no c.if-not-row_opens.true
          ((opens_exactly g.met.F.Field.lawful p c.args.group.now c.args.plan.now.sound c.requires.cards).0 opens c.loop-i.i (omega arith));
      rest = rw c.from-t.ensures
          (rest-kept (p.t * p.t) c.row_opens.new.matrix c.args.workspace.now
          (opening-room c.args.plan.now.sound c.args.workspace.now c.requires.room) (c.row_opens.auto.matrix ∙ rw c.from-t.ensures at c.loop-i.auto.matrix));
    }

pub loop-i-preserved : goal.loop-i-preserved
loop-i-preserved g c =
    let p = lent_plan c.args.plan.now.plan in
    below_more (λ k. OnlyZero g.F.Field.ops p.t (opening_matrix p c.args.group.now k))
    c.loop-i.i c.loop-i.invariant (c.row_opens.ensures.yes c.if-not-row_opens.false)

pub returns : goal.returns
returns g c =
    let p = lent_plan c.args.plan.now.plan in
    record {
      yes = λ is.
          (opens_exactly g.met.F.Field.lawful p c.args.group.now c.args.plan.now.sound c.requires.cards).1
          (λ i hi. c.loop-i.invariant i (omega arith));
      no = λ is. absurd (true≢false is);
      rest = rw c.from-t.ensures
          (rest-kept (p.t * p.t) c.loop-i.matrix c.args.workspace.now
          (opening-room c.args.plan.now.sound c.args.workspace.now c.requires.room) (rw c.from-t.ensures at c.loop-i.auto.matrix));
    }
