-- A deal is begun with its own store: no line of Begin's table applies to it. Assumes nothing.
use Rattle.std.proofs.Common.{◌≡◌, ℕ, ◌<◌, List, None, arith}
use Rattle.field.specs.Codes.{Operations}
use Rattle.field.specs.Refusals.{foremost}
use Rattle.sharing.specs.Scheme.{Deal, Plan, Sound, store}
use Rattle.deal.specs.Faults.{begin_rules}
use Rattle.deal.proofs.Faults.{no_refusal}
use Rattle.deal.proofs.Stores as stores

pub begins : (o : Operations) (p : Plan) (L : ℕ) (key dummies : List ℕ) → Sound o p → Deal o p L key dummies
    → foremost (begin_rules o p L (store p.t L key dummies)) ≡ None
begins o p L key dummies sound deal =
    -- the key's first number is a code, so there are codes
    let some : 0 < o.size = omega (arith, deal.key_of.1 0 (omega (arith, deal.some, deal.key_of.0))) in
    no_refusal (begin_rules o p L (store p.t L key dummies)) (stores.begins o some p L key dummies sound deal)
