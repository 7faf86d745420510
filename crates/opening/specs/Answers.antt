-- What Open answers for every input, and what it promises of the cards of a deal. Assumes nothing.
--   GroupOf     a group: the cards' numbers in ascending order
--   padding     the last line of the table: padding of the opened key that is not zero
--   Shut        the answer for cards whose group does not open
--   Opened      the answer for cards whose group opens: there is one set of words, and with it one padded key
--   Allowed     the answers by the table's foremost line: its refusal, or else one of these two
--   Answered    every answer: what is allowed by the foremost line of the whole table
--   OnlyAnswer  no other answer, and nothing else in the place, is allowed
--   data_of     the data of cards of a store, one after the other
--   Different   no number stands twice in a list
--   GivesBack   t different cards of a deal under an admitted plan, in any order, give its key back
use Rattle.std.specs.Prelude.{◌≡◌, ℕ, ◌<◌, ◌≤◌, true, cond, ◌⊎◌, ◌↔◌, List, [], ◌∷◌, ◌++◌, length, take, is_some, is_ok, Some, None, Option, Result, ◌≢◌, slice_index}
use Rattle.std.specs.Option.{unwrap_or}
use Rattle.field.specs.Codes.{Operations}
use Rattle.field.specs.Refusals.{Rule, refused, foremost}
use Rattle.field.specs.declared.refusal.Refusal.{Refusal}
use Rattle.sharing.specs.Groups.{Group, Holds, bits}
use Rattle.sharing.specs.Scheme.{Plan, Sound, Deal, lanes, store, card}
use Rattle.sharing.specs.Secrecy.{Opens, Admits}
use Rattle.opening.specs.Tables.{table, room}
use Rattle.opening.specs.Words.{Given, opened, first_loose}

pub record GroupOf (p : Plan) (cards g : List ℕ) : Type 0 where
  pub is_group : Group p.n p.t g
  pub members : (j : ℕ) → Holds g j ↔ Holds cards j

abbrev pub padding : (L : ℕ) → List ℕ → List Rule
padding L key = (0x38, is_some (first_loose L key), unwrap_or (first_loose L key) 0) ∷ []

-- before and after are what the place for the key holds, r is the answer
pub record Shut {T : Type 0} (o : Operations) (p : Plan) (cards before after : List ℕ) (r : Result T Refusal) : Type 0 where
  pub group : List ℕ
  pub of_cards : GroupOf p cards group
  pub shut : Opens o p group → ⊥
  pub refusal : refused r ≡ Some (0x15, bits group)
  pub same : after ≡ before

pub record Opened {T : Type 0} (o : Operations) (p : Plan) (cards «data» : List ℕ) (L : ℕ) (before after : List ℕ) (r : Result T Refusal) : Type 0 where
  pub group : List ℕ
  pub of_cards : GroupOf p cards group
  pub opens : Opens o p group
  pub words : (i e c : ℕ) → ℕ
  pub given : Given o p (lanes p.t L) cards «data» words
  pub only : (x : (i e c : ℕ) → ℕ) → Given o p (lanes p.t L) cards «data» x
      → (i e c : ℕ) → i < p.t → e < lanes p.t L → c < p.t → x i e c ≡ words i e c
  pub refusal : refused r ≡ foremost (padding L (opened o p.t (lanes p.t L) words))
  pub place : after ≡ cond (is_ok r) (take L (opened o p.t (lanes p.t L) words)) before

abbrev pub Allowed : {T : Type 0} → Operations → Plan → (cards «data» : List ℕ) → (L : ℕ) → (before after : List ℕ) → Result T Refusal
    → Option (ℕ × ℕ) → Type 0
Allowed o p cards «data» L before after r (Some z) = (refused r ≡ Some z) × (after ≡ before)
Allowed o p cards «data» L before after r None = Shut o p cards before after r ⊎ Opened o p cards «data» L before after r

abbrev pub Answered : {T : Type 0} → Operations → Plan → (cards «data» : List ℕ) → (L : ℕ) → (before after : List ℕ) → (workspace : ℕ)
    → Result T Refusal → Type 0
Answered o p cards «data» L before after workspace r =
    Allowed o p cards «data» L before after r (foremost (table o p cards «data» L (length before) workspace))

abbrev pub OnlyAnswer : {T : Type 0} → Operations → Plan → (cards «data» : List ℕ) → (L : ℕ) → (before after : List ℕ) → (workspace : ℕ)
    → Result T Refusal → Type 0
OnlyAnswer {T} o p cards «data» L before after workspace r =
    (place : List ℕ) (other : Result T Refusal) → Answered o p cards «data» L before place workspace other
    → (refused other ≡ refused r) × (place ≡ after)

abbrev pub data_of : Operations → Plan → (b : ℕ) → (s cards : List ℕ) → List ℕ
data_of o p b s [] = []
data_of o p b s (j ∷ cards) = card o p b s j ++ data_of o p b s cards

abbrev pub Different : List ℕ → Type 0
Different cards = (i h : ℕ) → i < h → h < length cards → slice_index cards i ≢ slice_index cards h

abbrev pub GivesBack : {T : Type 0} → Operations → Plan → (cards «data» : List ℕ) → (L : ℕ) → (before after : List ℕ) → (workspace : ℕ)
    → Result T Refusal → Type 0
GivesBack o p cards «data» L before after workspace r =
    (key dummies : List ℕ) → Sound o p → Admits o p → Deal o p L key dummies
    → length cards ≡ p.t → ((m : ℕ) → m < length cards → slice_index cards m < p.n) → Different cards
    → «data» ≡ data_of o p (lanes p.t L) (store p.t L key dummies) cards
    → length before ≡ L → room ≤ workspace
    → (is_ok r ≡ true) × (after ≡ key)
