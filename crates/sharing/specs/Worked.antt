-- Deals whose cards were worked out by hand. Assumes nothing.
--   Worked        a field, a plan, a key, its dummy keys and the cards that were found
--   all_cards     the cards of a deal, lowest first
--   Hold          each of a list of deals has the cards that were found
--   worked_deals  the deals
use Rattle.std.specs.Prelude.{◌≡◌, ℕ, List, [], ◌∷◌, map, length}
use Rattle.std.specs.List.{range_with_len}
use Rattle.field.specs.Codes.{Operations}
use Rattle.field.specs.Known.{operations}
use Rattle.field.specs.declared.known.Known.{Known}
use Rattle.field.specs.declared.known.Known.TheVariants.{Bytes, Modulo97}
use Rattle.sharing.specs.Scheme.{Plan, lanes, store, card}

pub record Worked : Type 0 where
  pub known : Known
  pub plan : Plan
  pub key : List ℕ
  pub dummies : List ℕ
  pub cards : List (List ℕ)

abbrev pub all_cards : Operations → Plan → (key dummies : List ℕ) → List (List ℕ)
all_cards o p key dummies =
    map (card o p (lanes p.t (length key)) (store p.t (length key) key dummies)) (range_with_len 0 p.n)

abbrev pub Hold : List Worked → Type 0
Hold [] = Unit {0}
Hold (w ∷ rest) = (all_cards (operations w.known) w.plan w.key w.dummies ≡ w.cards) × Hold rest

abbrev pub worked_deals : List Worked
worked_deals =
    record {
      known = Bytes;
      plan = record { t = 2; n = 3; rows = 0x8D ∷ 0xF6 ∷ [] };
      key = 0x12 ∷ 0x34 ∷ [];
      dummies = 0xA0 ∷ 0x0B ∷ [];
      cards = (0xB2 ∷ 0x0B ∷ []) ∷ (0x3F ∷ 0xA0 ∷ []) ∷ (0x4C ∷ 0xA0 ∷ []) ∷ [];
    }
    ∷ record {
      known = Modulo97;
      plan = record { t = 2; n = 3; rows = 49 ∷ 1 ∷ [] };
      key = 10 ∷ 20 ∷ [];
      dummies = 30 ∷ 96 ∷ [];
      cards = (40 ∷ 96 ∷ []) ∷ (19 ∷ 14 ∷ []) ∷ (39 ∷ 30 ∷ []) ∷ [];
    }
    ∷ record {
      known = Bytes;
      plan = record { t = 3; n = 3; rows = [] };
      key = 0x01 ∷ 0x02 ∷ 0x03 ∷ [];
      dummies = 0x04 ∷ 0x05 ∷ 0x06 ∷ 0x07 ∷ 0x08 ∷ 0x09 ∷ [];
      cards = (0x02 ∷ 0x05 ∷ 0x09 ∷ []) ∷ (0x0F ∷ 0x06 ∷ 0x07 ∷ []) ∷ (0x0C ∷ 0x04 ∷ 0x08 ∷ []) ∷ [];
    }
    ∷ []
