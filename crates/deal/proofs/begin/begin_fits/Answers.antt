-- The padding is part of a small store, so that an index into it fits 16 bits.
use Rattle.std.proofs.Common.{◌*◌, not, ◌&&◌, eqb, leb, get_or, sym, ap, ◌∙◌, arith}
use Rattle.field.specs.Inverse.{first_passes}
use Rattle.field.specs.Refusals.{refused}
use Rattle.sharing.specs.Scheme.{Sound, lanes}
use Rattle.sharing.specs.Lent.{lent_plan}
use Rattle.plan_check.proofs.Faults.{faultless_sound}
use Rattle.deal.proofs.Places.{block_small}
use Rattle.deal.proofs.begin.begin_fits.Goals as goal

pub overflow_cast-result : goal.overflow_cast-result
overflow_cast-result g c =
    let o = g.F.Field.ops in
    let len = c.args.len in
    let s = c.in_ok-store.store in
    let sound : Sound o (lent_plan c.args.plan.now) = faultless_sound o (lent_plan c.args.plan.now) (sym c.faultless.ensures ∙ ap refused c.in_ok-faultless.was) in
    let found = first_passes (λ k. leb len k && not (eqb (get_or s.numbers.now k 0) 0)) (s.t * lanes s.t len) c.in-Some.index (sym c.in-Some.ensures) in
    omega (arith, found.0, block_small s.t len (omega (arith, sound.ordered, sound.most, c.in_ok-store.ensures.store.1)) (omega arith))
