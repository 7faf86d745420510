-- The numbers so far are the card's.
use Rattle.std.proofs.Common.{◌≡◌, ℕ, ◌+◌, ◌/◌, ◌%◌, ◌<◌, get_or}
use Rattle.linear.specs.Casting.{cast}
use Rattle.sharing.specs.Scheme.{word}
use Rattle.deal.proofs.casting.write_card.Given as goal

abbrev pub invariant-loop-x : goal.invariant-loop-x
invariant-loop-x g l =
    (k : ℕ) → k < l.x
    → get_or l.place k 0
    ≡ cast g.F.Field.ops l.store.t l.plan.rows.now (word g.F.Field.ops l.store.t l.store.lanes l.store.numbers.now (k / l.store.lanes) (k % l.store.lanes)) ((l.j + k / l.store.lanes) % l.plan.n)
