-- Of a card that is out, either refusal of the plan, the store and the place spoils the blank.
use Rattle.std.proofs.Common.{◌≡◌, ℕ, Bool, true, false, not, ◌&&◌, ◌||◌, eqb, [], ◌∷◌, length, Some, refl, ◌∙◌, subst, rules}
use Rattle.field.specs.Refusals.{listing, foremost}
use Rattle.sharing.specs.Lent.{lent_plan}
use Rattle.plan_check.proofs.Faults.{some_none}
use Rattle.deal.specs.declared.state.State.{State}
use Rattle.deal.specs.declared.state.CardState.TheVariants.{Waiting}
use Rattle.deal.specs.Sharings.{rotated}
use Rattle.deal.specs.Calls.{Answer, is_out, standing, same_mark, answered, settled, moved, write_after}
use Rattle.deal.specs.Calls.Answer.{Data}
use Rattle.deal.proofs.state.Blank.write.Goals as goal

spoils : (d : State) (j : ℕ) (is-out misfits displaced : Bool) (granted : Answer) (r : ℕ × ℕ) → is-out ≡ true
    → Some r ≡ foremost ((0x24, misfits, 0) ∷ (0x25, displaced, 0) ∷ [])
    → moved d j Waiting 0 1 ≡ settled d j (answered ((0x23, not is-out, j) ∷ (0x24, misfits, 0) ∷ (0x25, displaced, 0) ∷ []) granted)
spoils d j is-out true displaced granted r out e = rw out refl
spoils d j is-out false true granted r out e = rw out refl
spoils d j is-out false false granted r out e = absurd (some_none r e)

pub returns-in-Err-clause-after : goal.returns-in-Err-clause-after
returns-in-Err-clause-after g c =
    let o = g.F.Field.ops in
    let d = c.args.deal.now.state in
    let x = c.args.self in
    let p = lent_plan c.lent-plan.result in
    let s = c.args.store.now in
    let room = length c.args.place.now in
    let sharing = rotated o p d.len in
    c.bring_back.ensures
    ∙ subst (λ q. moved d x.card Waiting 0 1 ≡ write_after (rotated o) d x q s room) c.lent-plan.ensures
    (spoils d x.card (same_mark x.mark d.mark && is_out (standing d x.card)) (not (eqb p.t d.t && eqb p.n d.n) || sharing.unfit s)
    (not (eqb room sharing.size)) (Data (sharing.card s x.card)) (listing c.in-Err.refusal) (search rules) c.in-Err.ensures.refusal)
