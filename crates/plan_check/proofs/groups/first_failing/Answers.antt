-- The steps of the two loops, and the first group that fails.
use Rattle.std.proofs.Common.{◌≡◌, ℕ, ◌+◌, ◌-◌, ◌*◌, ◌%◌, ◌^◌, List, [], ◌∷◌, ◌++◌, length, append_assoc, sym, ap, ◌∙◌, subst, arith}
use Rattle.std.proofs.lemmas.Nat.{one_shl}
use Rattle.sharing.specs.Lent.{lent_plan}
use Rattle.plan_check.specs.Checks.{group_size, Passes, failure}
use Rattle.plan_check.proofs.Answering.{all_pass}
use Rattle.plan_check.proofs.Ranks.{members, run_at, run_group}
use Rattle.plan_check.proofs.Searching.{weight, card_skipped, card_next, card_left, card-over, cards_held, down_start, down_more, down_first}
use Rattle.plan_check.proofs.groups.first_failing.Goals as goal
use Rattle.plan_check.proofs.groups.first_failing.Goals.{else-cards-size-via-then-cards-size+else-not-passes, else-cards-size-via-else-cards-size}

pub groups-init : goal.groups-init
groups-init g c =
    let n = c.args.plan.now.plan.n in
    let start : (1 * 2 ^ n) % 2 ^ 16 ≡ 2 ^ n = one_shl n 16 (omega arith) in (
      omega arith,
      down_start (Passes c.args.property g.F.Field.ops (lent_plan c.args.plan.now.plan)) n
          (group_size c.args.property c.args.plan.now.plan.t) ((1 * 2 ^ n) % 2 ^ 16) (omega arith),
    )

pub loop-card-preserved-then-left-weight : goal.loop-card-preserved-then-left-weight
loop-card-preserved-then-left-weight g c =
    let n = c.args.plan.now.plan.n in
    let card = c.loop-card.card in
    let skipped =
    card_skipped n card c.loop-card.left ((1 * 2 ^ (n - 1 - card)) % 2 ^ 16) (members 0 n (c.groups.rank - 1))
    c.loop-card.group.items c.loop-card-test.true (weight n card c.loop-card-test.true c.args.plan.now.sound.most) c.loop-card.invariant.1
    c.if-left-weight.true
    in
    (omega arith, skipped.0, skipped.1)

pub groups-preserved-then-len-size : goal.groups-preserved-then-len-size
groups-preserved-then-len-size g c =
    let n = c.args.plan.now.plan.n in
    let card = c.loop-card.card in
    let group = c.loop-card.group.items in
    let w = (1 * 2 ^ (n - 1 - card)) % 2 ^ 16 in
    let all = members 0 n (c.groups.rank - 1) in
    let next =
    card_next n card c.loop-card.left w all group c.loop-card-test.true
    (weight n card c.loop-card-test.true c.args.plan.now.sound.most) c.loop-card.invariant.1 c.if-left-weight.false
    in
    let over = card-over group (members (card + 1) (n - (card + 1)) (c.loop-card.left - w)) all card next in (
      omega arith,
      down_more (Passes c.args.property g.F.Field.ops (lent_plan c.args.plan.now.plan)) n
          (group_size c.args.property c.args.plan.now.plan.t) (c.groups.rank - 1) c.groups.rank (omega arith) c.groups.invariant.1
          (λ few. absurd (omega (arith, c.from-size.ensures ∙ c.group_size.ensures))),
    )

pub loop-card-preserved : goal.loop-card-preserved
loop-card-preserved g c =
    let n = c.args.plan.now.plan.n in
    let card = c.loop-card.card in
    let group = c.loop-card.group.items in
    let w = (1 * 2 ^ (n - 1 - card)) % 2 ^ 16 in
    let weighs = weight n card c.loop-card-test.true c.args.plan.now.sound.most in
    let all = members 0 n (c.groups.rank - 1) in
    let others = members (card + 1) (n - (card + 1)) (c.loop-card.left - w) in
    let next = card_next n card c.loop-card.left w all group c.loop-card-test.true weighs c.loop-card.invariant.1 c.if-left-weight.false in
    let rest = card_left n card c.loop-card.left w all group c.loop-card-test.true weighs c.loop-card.invariant.1 c.loop-card.invariant.2 c.if-left-weight.false in (
      omega arith,
      next ∙ sym (append_assoc group (card ∷ []) others) ∙ ap (λ l. l ++ others) (sym c.push.ensures.items),
      rest,
    )

pub passes-requires-clause-proper : goal.passes-requires-clause-proper
passes-requires-clause-proper g c =
    let cards =
    cards_held c.args.plan.now.plan.n c.loop-card.card c.loop-card.left (c.groups.rank - 1) c.loop-card.group.items c.as_slice-cards.result.now
    c.loop-card-test.false c.loop-card.invariant.1 c.as_slice-cards.ensures.value
    in
    run_group c.args.plan.now.plan.n (group_size c.args.property c.args.plan.now.plan.t) c.as_slice-cards.result.now
    (c.if-cards-size.true ∙ c.from-size.ensures ∙ c.group_size.ensures) cards.1

pub group_bits-requires-clause-below : goal.group_bits-requires-clause-below
group_bits-requires-clause-below g c i h =
    let cards =
    cards_held c.args.plan.now.plan.n c.loop-card.card c.loop-card.left (c.groups.rank - 1) c.loop-card.group.items c.as_slice-cards.result.now
    c.loop-card-test.false c.loop-card.invariant.1 c.as_slice-cards.ensures.value
    in
    let place = run_at 0 c.args.plan.now.plan.n c.as_slice-cards.result.now cards.1 i h in omega arith

pub groups-preserved : goal.groups-preserved
groups-preserved g c =
    let n = c.args.plan.now.plan.n in
    let Good : List ℕ → Type 0 = Passes c.args.property g.F.Field.ops (lent_plan c.args.plan.now.plan) in
    let r = c.groups.rank - 1 in
    let cards =
    cards_held n c.loop-card.card c.loop-card.left r c.loop-card.group.items c.as_slice-cards.result.now
    c.loop-card-test.false c.loop-card.invariant.1 c.as_slice-cards.ensures.value
    in (
      omega arith,
      down_more Good n (group_size c.args.property c.args.plan.now.plan.t) r c.groups.rank (omega arith) c.groups.invariant.1
          (λ size. elim c.else-cards-size.branch [
            | else-cards-size-via-then-cards-size+else-not-passes w ↦ subst Good (sym cards.0) (w.passes.ensures.yes w.if-not-passes.false)
            | else-cards-size-via-else-cards-size w ↦
                absurd (w.if-cards-size.false (ap length (sym cards.0) ∙ size ∙ sym (c.from-size.ensures ∙ c.group_size.ensures)))
          ]),
    )

pub returns-then-not-passes : goal.returns-then-not-passes
returns-then-not-passes g c =
    let n = c.args.plan.now.plan.n in
    let r = c.groups.rank - 1 in
    let group = c.as_slice-cards.result.now in
    let cards =
    cards_held n c.loop-card.card c.loop-card.left r c.loop-card.group.items group c.loop-card-test.false c.loop-card.invariant.1
    c.as_slice-cards.ensures.value
    in
    let size : length group ≡ group_size c.args.property c.args.plan.now.plan.t =
    c.if-cards-size.true ∙ c.from-size.ensures ∙ c.group_size.ensures
    in (
      group,
      down_first (Passes c.args.property g.F.Field.ops (lent_plan c.args.plan.now.plan)) n
          (group_size c.args.property c.args.plan.now.plan.t) r c.groups.rank group (omega arith) (omega arith)
          cards.0 size (c.passes.ensures.no c.if-not-passes.true) c.groups.invariant.1,
      c.failure.ensures ∙ ap (λ b. (failure c.args.property, b)) c.group_bits.ensures,
    )

pub returns-then-rank-eq0 : goal.returns-then-rank-eq0
returns-then-rank-eq0 g c =
    all_pass c.args.property g.F.Field.ops (lent_plan c.args.plan.now.plan) (λ h is_group. c.groups.invariant.1 h is_group (omega arith))
