-- Each way out: a short workspace, a fault of the inputs, or what comes of the cards; the guard clears the workspace.
use Rattle.std.proofs.Common.{length, sym, refl, ap, ◌∙◌, subst, inl, inr, ⊎_elim, arith}
use Rattle.sharing.specs.Lent.{lent_plan}
use Rattle.sharing.specs.Scheme.{Plan, lanes}
use Rattle.opening.specs.Answers.{Opened}
use Rattle.opening.proofs.Answering.{answered_fault, answered_short, answered_settled}
use Rattle.opening.proofs.Faultless.{faultless, faultless_fits}
use Rattle.opening.proofs.open_cards.Goals as goal

pub returns-then-workspace-lt-ROOM-clause-answer : goal.returns-then-workspace-lt-ROOM-clause-answer
returns-then-workspace-lt-ROOM-clause-answer g c =
    let a = c.args in
    answered_short (Unit {0}) g.F.Field.ops (lent_plan a.plan.now) a.cards.now a.data.now a.key_length a.key.now a.key.now
    (length a.workspace.now) c.fit_inputs-fit.result c.and.result c.and.ensures c.fit_inputs-fit.ensures (omega arith) refl

pub returns-in_err-fit-clause-answer : goal.returns-in_err-fit-clause-answer
returns-in_err-fit-clause-answer g c =
    let a = c.args in
    answered_fault (Unit {0}) g.F.Field.ops (lent_plan a.plan.now) a.cards.now a.data.now a.key_length a.key.now a.key.now
    (length a.workspace.now) c.from_residual.result c.from_residual.ensures.0 (grind arith) refl

pub invariant_of-quorum : goal.invariant_of-quorum
invariant_of-quorum g c =
    let a = c.args in
    let p : Plan = lent_plan a.plan.now in
    let f = faultless g.F.Field.ops p a.cards.now a.data.now a.key_length (length a.key.now) (length a.workspace.now) c.in_ok-fit.ensures in
    record {
      fits =
          faultless_fits g.F.Field.ops p a.cards.now a.data.now a.key_length (length a.key.now) (length a.workspace.now)
          f c.lanes.result c.lanes.ensures;
    }

pub settle-requires : goal.settle-requires
settle-requires g c =
    let a = c.args in
    let p : Plan = lent_plan a.plan.now in
    let f = faultless g.F.Field.ops p a.cards.now a.data.now a.key_length (length a.key.now) (length a.workspace.now) c.in_ok-fit.ensures in
    record {
      pieces = c.lanes.ensures ∙ ap (lanes p.t) (sym f.placed);
      most = omega (arith, f.placed, f.measure.most);
      enough = omega arith;
    }

pub returns-clause-answer : goal.returns-clause-answer
returns-clause-answer g c =
    let a = c.args in
    let p : Plan = lent_plan a.plan.now in
    let f = faultless g.F.Field.ops p a.cards.now a.data.now a.key_length (length a.key.now) (length a.workspace.now) c.in_ok-fit.ensures in
    answered_settled (Unit {0}) g.F.Field.ops p a.cards.now a.data.now a.key_length a.key.now c.settle.new.key
    (length a.workspace.now) c.settle.result c.in_ok-fit.ensures (omega arith)
    (⊎_elim inl
    (λ opened.
    inr
    (subst (λ L. Opened g.F.Field.ops p a.cards.now a.data.now L a.key.now c.settle.new.key c.settle.result) f.placed
    opened))
    c.settle.ensures)
