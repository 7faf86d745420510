-- What the calls of a deal use of a sharing scheme, and the rotated scheme as such a sharing. Assumes nothing.
--   Sharing   for one plan and key length: how long a card is, which stores do not fit, and the cards of a store
--   Scheme    a sharing for each plan and key length
--   rotated   the scheme of the cards that are cast row by row and rotated
use Rattle.std.specs.Prelude.{ℕ, ◌*◌, Bool, ◌||◌, List, is_some}
use Rattle.field.specs.Codes.{Operations}
use Rattle.field.specs.Refusals.{foremost}
use Rattle.sharing.specs.Scheme.{Plan, lanes, card}
use Rattle.plan_check.specs.Faults.{faults}
use Rattle.deal.specs.Faults.{store_rules}

pub record Sharing : Type 0 where
  -- how many numbers a card has
  pub size : ℕ
  -- the plan or the store does not fit the field
  pub unfit : List ℕ → Bool
  -- card j of a store
  pub card : List ℕ → (j : ℕ) → List ℕ

abbrev pub Scheme : Type 0
Scheme = Plan → (L : ℕ) → Sharing

abbrev pub rotated : Operations → Scheme
rotated o p L = record {
  size = p.t * lanes p.t L;
  unfit = λ s. is_some (foremost (faults o p)) || is_some (foremost (store_rules o p.t L s));
  card = card o p (lanes p.t L);
}
