-- What Open looks for before it solves anything, line by line, in the order of the table. Assumes nothing.
--   first_beyond   the place of the first card number of n or more
--   stands         a card number is among the first ones
--   first_twice    the place of the first card number that stood before already
--   number_at      the card number at a place that was found
--   data_place     where a byte of the data stands: 256 times its card's number, plus its index in that card's data
--   room           how many bytes a workspace has to have
--   cards_table    what can be wrong with the card numbers
--   data_table     what can be wrong with the key's length and the cards' data
--   inputs_table   the plan, the card numbers, the data, the place for the key
--   table          all of these, and a workspace that is too short
use Rattle.std.specs.Prelude.{ℕ, ◌+◌, ◌*◌, ◌/◌, ◌%◌, Bool, not, ◌&&◌, List, [], ◌∷◌, ◌++◌, length, is_some, Option, ◌==◌, nat_eq, nat_le, nat_lt, slice_index}
use Rattle.std.specs.Option.{unwrap_or, option_map}
use Rattle.field.specs.Codes.{Operations, first}
use Rattle.field.specs.Refusals.{Rule}
use Rattle.sharing.specs.Scheme.{Plan, lanes}
use Rattle.plan_check.specs.Faults.{first_no_code, faults}

abbrev pub first_beyond : (n : ℕ) → List ℕ → Option ℕ
first_beyond n cards = first (λ i. not (nat_lt (slice_index cards i) n)) (length cards)

-- the number j stands at one of the first places of the cards
abbrev pub stands : List ℕ → (places j : ℕ) → Bool
stands cards places j = is_some (first (λ k. nat_eq (slice_index cards k) j) places)

abbrev pub first_twice : List ℕ → Option ℕ
first_twice cards = first (λ i. stands cards i (slice_index cards i)) (length cards)

abbrev pub number_at : List ℕ → Option ℕ → ℕ
number_at cards place = unwrap_or (option_map (λ i. slice_index cards i) place) 0

abbrev pub data_place : List ℕ → (card_length index : ℕ) → ℕ
data_place cards card_length index = 256 * slice_index cards (index / card_length) + index % card_length

abbrev pub room : ℕ
room = 4096

abbrev pub cards_table : (t n : ℕ) → List ℕ → List Rule
cards_table t n cards =
    (0x30, not (length cards == t), 0)
    ∷ (0x31, is_some (first_beyond n cards), number_at cards (first_beyond n cards))
    ∷ (0x32, is_some (first_twice cards), number_at cards (first_twice cards))
    ∷ []

abbrev pub data_table : Operations → (t L : ℕ) → (cards «data» : List ℕ) → List Rule
data_table o t L cards «data» =
    (0x33, not (nat_le 1 L && nat_le L 64), 0)
    ∷ (0x34, not (length «data» == t * (t * lanes t L)), 0)
    ∷ (0x35, is_some (first_no_code o «data»), unwrap_or (option_map (data_place cards (t * lanes t L)) (first_no_code o «data»)) 0)
    ∷ []

abbrev pub inputs_table : Operations → Plan → (cards «data» : List ℕ) → (L place : ℕ) → List Rule
inputs_table o p cards «data» L place =
    faults o p
    ++ (cards_table p.t p.n cards ++ (data_table o p.t L cards «data» ++ (0x36, not (place == L), 0) ∷ []))

abbrev pub table : Operations → Plan → (cards «data» : List ℕ) → (L place workspace : ℕ) → List Rule
table o p cards «data» L place workspace =
    inputs_table o p cards «data» L place ++ (0x37, nat_lt workspace room, 0) ∷ []
