-- Each card adds its bit, of 128 at most.
use Rattle.std.proofs.Common.{◌≡◌, ℕ, suc, ◌*◌, ◌%◌, ◌^◌, ◌<◌, ◌≤◌, List, [], ◌∷◌, length, get_or, map, sum, refl, ◌∙◌, rules, tests, arith, pow_mono}
use Rattle.std.proofs.lemmas.Nat.{one_shl}
use Rattle.std.proofs.lemmas.List.{get_or_default}
use Rattle.std.proofs.lemmas.List.Sums.{sum_by-cons}
use Rattle.std.proofs.lemmas.Iterator.{YieldsList-from_slice, YieldsList-from_map}
use Rattle.std.proofs.lemmas.Iterator.Adapters.{serves_from_places}
use Rattle.std.proofs.lemmas.Iterator.Consumers.{sum_from_yields_List, fits_from_yields_list}
use Rattle.sharing.specs.Groups.{bits}
use Rattle.sharing.proofs.groups.group_bits.Goals as goal

abbrev weight : ℕ → ℕ
weight j = (1 * 2 ^ j) % 65536

weighed : (g : List ℕ) → ((i : ℕ) → i < length g → get_or g i 0 < 8) → (sum (map weight g) ≡ bits g) × (bits g ≤ 128 * length g)
weighed [] small = (refl, omega arith)
weighed (j ∷ g) small =
    let low : j < 8 = small 0 (omega arith) in
    let whole : weight j ≡ 2 ^ j = one_shl j 16 (omega arith) in
    let most : 2 ^ j ≤ 2 ^ 7 = pow_mono {i = j} {j = 7} (omega arith) in
    let rest = weighed g (λ i l. small (suc i) (omega arith)) in
    let more = sum_by-cons (λ x. x) (weight j) (map weight g) in
    (omega (arith, more, rest.0), omega (arith, rest.1))

pub sum-requires-clause-can : goal.sum-requires-clause-can
sum-requires-clause-can c = (
  tt,
  serves_from_places (YieldsList-from_slice c.args.cards.now cc) (λ x q k. search (rules, tests))
      (λ x i l e _ _ _ _ _. omega (arith, e, get_or_default c.args.cards.now i x.now 0 l, c.requires.below i l)),
)

pub sum-requires-clause-fits : goal.sum-requires-clause-fits
sum-requires-clause-fits c =
    let weighs = weighed c.args.cards.now c.requires.below in
    fits_from_yields_list c.map.result (2 ^ 16)
    (YieldsList-from_map _ weight (YieldsList-from_slice c.args.cards.now cc) c.map.ensures.closure (λ x r q k. search (rules, tests)))
    (omega (arith, weighs.0, weighs.1))

pub returns : goal.returns
returns c =
    sum_from_yields_List c.map.result c.sum.result c.sum.ensures.ran
    (YieldsList-from_map _ weight (YieldsList-from_slice c.args.cards.now cc) c.map.ensures.closure (λ x r q k. search (rules, tests)))
    ∙ (weighed c.args.cards.now c.requires.below).0
