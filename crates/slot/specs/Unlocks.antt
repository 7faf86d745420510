-- What Unlock answers for every input, by what the slot holds, and what it promises of the cards of a deal. Assumes nothing.
--   numbers_held   the numbers of the cards held, lowest first, where the first place is card k
--   lowest         the numbers of the t lowest cards held
--   data_held      the data of cards, one after the other
--   no_code_held   the place, in the data of the t lowest cards, of the first number that is no code
--   size_held      L of the cards held, 0 in an empty slot
--   other_plan     t or n of a plan differ from those held
--   plan_table     what stands against the plan: its faults, other cards than the plan's, fewer than t cards
--   unlock_table   all that Unlock looks for before it opens anything, line by line
--   listed         the number of a refusal that is there, and what it carries
--   told           the same of an answer that is a refusal
--   raised         an answer of Open as the slot passes it on
--   Settled        the answers by the table's foremost line: its refusal, or else an answer of Open for the lowest cards
--   Unlocked       every answer: what is allowed by the foremost line of the whole table
--   OnlyUnlocked   no other answer, and nothing else in the place, is allowed
--   Coded          every number of the cards held is a code of the field
--   GivesKey       a slot that holds t cards of a deal under an admitted plan gives the deal's key back
use Rattle.std.specs.Prelude.{◌≡◌, ℕ, suc, ◌*◌, ◌≤◌, Bool, true, false, cond, not, ◌&&◌, ◌⊎◌, List, [], ◌∷◌, ◌++◌, length, take, is_some, is_ok, Some, None, Ok, Err, Option, Result, ◌==◌, nat_lt, slice_index_or}
use Rattle.std.specs.Option.{unwrap_or, option_map}
use Rattle.field.specs.Codes.{Operations}
use Rattle.field.specs.Refusals.{Rule, foremost}
use Rattle.field.specs.declared.refusal.Refusal.{Refusal}
use Rattle.sharing.specs.Scheme.{Plan, Sound, Codes, Deal, lanes, store, card}
use Rattle.sharing.specs.Secrecy.{Admits}
use Rattle.plan_check.specs.Faults.{first_no_code, faults}
use Rattle.opening.specs.Answers.{Shut, Opened}
use Rattle.opening.specs.Tables.{data_place, room}
use Rattle.slot.specs.Holdings.{Cards, Holding, count}
use Rattle.slot.specs.Inserts.{held_at}
use Rattle.slot.specs.Refusals.{listing, refused}
use Rattle.slot.specs.declared.phase.Heading.{Heading}
use Rattle.slot.specs.declared.refusal.SlotRefusal.{SlotRefusal}
use Rattle.slot.specs.declared.refusal.SlotRefusal.TheVariants.{Shared}

abbrev pub numbers_held : (k : ℕ) → Cards → List ℕ
numbers_held k [] = []
numbers_held k (c ∷ cards) = cond (is_some c) (k ∷ []) [] ++ numbers_held (suc k) cards

abbrev pub lowest : (t : ℕ) → Cards → List ℕ
lowest t cards = take t (numbers_held 0 cards)

abbrev pub data_held : Cards → List ℕ → List ℕ
data_held cards [] = []
data_held cards (j ∷ numbers) = unwrap_or (slice_index_or cards j None) [] ++ data_held cards numbers

abbrev pub no_code_held : Operations → (t : ℕ) → Cards → Option ℕ
no_code_held o t cards = first_no_code o (data_held cards (lowest t cards))

abbrev pub size_held : Holding → ℕ
size_held s = elim s.first [ Some h ↦ h.size | None ↦ 0 ]

-- an empty slot goes with any plan
abbrev pub other_plan : Option Heading → Plan → Bool
other_plan None p = false
other_plan (Some h) p = not (h.t == p.t && h.n == p.n)

abbrev pub plan_table : Operations → Plan → Holding → List Rule
plan_table o p s =
    faults o p
    ++ (0x52, other_plan s.first p, 0)
    ∷ (0x54, nat_lt (count s.cards) p.t, count s.cards)
    ∷ []

-- what Open calls 30 to 34 cannot be wrong with cards that a slot holds. 35 never holds of a slot
-- either: its type says that every number held is a code (Coded, below)
abbrev pub unlock_table : Operations → Plan → Holding → (place workspace : ℕ) → List Rule
unlock_table o p s place workspace =
    plan_table o p s
    ++ (0x35, is_some (no_code_held o p.t s.cards), unwrap_or (option_map (data_place (lowest p.t s.cards) (p.t * lanes p.t (size_held s))) (no_code_held o p.t s.cards)) 0)
    ∷ (0x36, not (place == size_held s), 0)
    ∷ (0x37, nat_lt workspace room, 0)
    ∷ []

abbrev pub listed : Option SlotRefusal → Option (ℕ × ℕ)
listed r = option_map (λ e. ((listing e).0, (listing e).1)) r

abbrev pub told : Result (Unit {0}) SlotRefusal → Option (ℕ × ℕ)
told r = listed (refused r)

abbrev pub raised : Result (Unit {0}) Refusal → Result (Unit {0}) SlotRefusal
raised (Ok u) = Ok u
raised (Err e) = Err (Shared e)

-- before and after are what the place for the key holds, r is the answer
abbrev pub Settled : Operations → Plan → Holding → (before after : List ℕ) → Result (Unit {0}) SlotRefusal → Option (ℕ × ℕ) → Type 0
Settled o p s before after r (Some z) = (told r ≡ Some z) × (after ≡ before)
Settled o p s before after r None =
    (inner : Result (Unit {0}) Refusal) × (r ≡ raised inner)
    × (Shut o p (lowest p.t s.cards) before after inner
    ⊎ Opened o p (lowest p.t s.cards) (data_held s.cards (lowest p.t s.cards)) (size_held s) before after inner)

abbrev pub Unlocked : Operations → Plan → Holding → (before after : List ℕ) → (workspace : ℕ) → Result (Unit {0}) SlotRefusal → Type 0
Unlocked o p s before after workspace r = Settled o p s before after r (foremost (unlock_table o p s (length before) workspace))

abbrev pub OnlyUnlocked : Operations → Plan → Holding → (before after : List ℕ) → (workspace : ℕ) → Result (Unit {0}) SlotRefusal → Type 0
OnlyUnlocked o p s before after workspace r =
    (place : List ℕ) (other : Result (Unit {0}) SlotRefusal) → Unlocked o p s before place workspace other
    → (told other ≡ told r) × (place ≡ after)

abbrev pub Coded : Operations → Holding → Type 0
Coded o s = (k : ℕ) → Codes o (unwrap_or (held_at s k) [])

abbrev pub GivesKey : Operations → Plan → Holding → (before after : List ℕ) → (workspace : ℕ) → Result (Unit {0}) SlotRefusal → Type 0
GivesKey o p s before after workspace r =
    (key dummies : List ℕ) (L : ℕ) (h : Heading) → Sound o p → Admits o p → Deal o p L key dummies
    → s.first ≡ Some h → h.t ≡ p.t → h.n ≡ p.n → h.size ≡ L
    → ((k : ℕ) (numbers : List ℕ) → held_at s k ≡ Some numbers → numbers ≡ card o p (lanes p.t L) (store p.t L key dummies) k)
    → p.t ≤ count s.cards → length before ≡ L → room ≤ workspace
    → (is_ok r ≡ true) × (after ≡ key)
