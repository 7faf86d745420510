-- The calls of a deal: what each answers, and what the deal holds after it. Assumes nothing.
--   Call, Answer   a call with all that it is handed, and what comes back
--   Facts          what the tables of refusals ask of a deal
--   take_rules, blank_rule, write_rules   the table of each call
--   tally          how many numbers below n pass a test
--   answer         what a call answers: the first line of its table that applies, or what it grants
--   fresh, moved   a new deal, and one with a card put elsewhere
--   after          what the deal holds then
use Rattle.std.specs.Prelude.{ℕ, zero, suc, ◌+◌, Bool, true, false, cond, not, ◌&&◌, ◌||◌, List, [], ◌∷◌, replicate, Some, None, Ok, Err, Result, ◌==◌, nat_le, slice_index_or, slice_set}
use Rattle.field.specs.declared.refusal.Refusal.{Refusal}
use Rattle.field.specs.Refusals.{Rule, foremost, listing}
use Rattle.sharing.specs.Scheme.{Plan}
use Rattle.lines.specs.declared.mark.DealMark.{DealMark}
use Rattle.deal.specs.declared.state.Blank.{Blank}
use Rattle.deal.specs.declared.state.State.{State}
use Rattle.deal.specs.declared.state.CardState.{CardState}
use Rattle.deal.specs.declared.state.CardState.TheVariants.{Waiting, Out, Written}
use Rattle.deal.specs.Sharings.{Scheme}

-- a Write is handed a blank, a plan, a store and a place of so many numbers
pub data Call : Type 0 where
  Take : (j : ℕ) → Call
  Write : Blank → Plan → (store : List ℕ) → (room : ℕ) → Call
  Spoil : Blank → Call
  Count : Call

-- a refusal with its number and what it carries; a blank; a card's data; nothing, for a blank brought back; three counts
pub data Answer : Type 0 where
  Refused : (number carries : ℕ) → Answer
  Given : Blank → Answer
  Data : List ℕ → Answer
  Back : Answer
  Counts : (out written spoiled : ℕ) → Answer

-- whether a card's blank is out
abbrev pub is_out : CardState → Bool
is_out Waiting = false
is_out Out = true
is_out Written = false

-- whether a card is written
abbrev pub is_written : CardState → Bool
is_written Waiting = false
is_written Out = false
is_written Written = true

-- where card j stands; one that there is not waits for ever
abbrev pub standing : State → (j : ℕ) → CardState
standing d j = slice_index_or d.cards j Waiting

-- what is asked of a deal: its mark, t, n and key length, which cards are out, which are written, how many blanks it granted
pub record Facts : Type 0 where
  pub mark : DealMark
  pub t : ℕ
  pub n : ℕ
  pub len : ℕ
  pub out : (j : ℕ) → Bool
  pub written : (j : ℕ) → Bool
  pub granted : ℕ

-- the facts that a deal's memory holds
abbrev pub held : State → Facts
held d = record {
  mark = d.mark;
  t = d.t;
  n = d.n;
  len = d.len;
  out = λ j. is_out (standing d j);
  written = λ j. is_written (standing d j);
  granted = d.granted;
}

-- whether two marks are one
abbrev pub same_mark : DealMark → DealMark → Bool
same_mark a b = a.number == b.number

-- Take's table: no such card, the card is out, it is written, 200 blanks were granted
abbrev pub take_rules : Facts → (j : ℕ) → List Rule
take_rules f j =
    (0x20, nat_le f.n j, j)
    ∷ (0x21, f.out j, j)
    ∷ (0x22, f.written j, j)
    ∷ (0x26, nat_le 200 f.granted, 0)
    ∷ []

-- the line of Write and Spoil: the blank is another deal's, or its card is not out
abbrev pub blank_rule : Facts → Blank → Rule
blank_rule f x = (0x23, not (same_mark x.mark f.mark && f.out x.card), x.card)

-- Write's table: that line; the plan is not the deal's by t and n, or plan or store do not fit; the place has another length
abbrev pub write_rules : Scheme → Facts → Blank → Plan → (store : List ℕ) → (room : ℕ) → List Rule
write_rules S f x p s room =
    blank_rule f x
    ∷ (0x24, not (p.t == f.t && p.n == f.n) || (S p f.len).unfit s, 0)
    ∷ (0x25, not (room == (S p f.len).size), 0)
    ∷ []

-- the refusal of the first line that applies, or what is granted if none does
abbrev pub answered : List Rule → Answer → Answer
answered rules granted = elim (foremost rules) [ Some r ↦ Refused r.0 r.1 | None ↦ granted ]

-- how many of the numbers below n pass the test
unfoldable pub tally : (ℕ → Bool) → (n : ℕ) → ℕ
tally test zero = 0
tally test (suc k) = tally test k + cond (test k) 1 0

-- Take answers a blank
abbrev pub take_answer : State → (j : ℕ) → Answer
take_answer d j = answered (take_rules (held d) j) (Given (record { card = j; mark = d.mark }))

-- Write answers the card's data
abbrev pub write_answer : Scheme → State → Blank → Plan → (store : List ℕ) → (room : ℕ) → Answer
write_answer S d x p s room = answered (write_rules S (held d) x p s room) (Data ((S p d.len).card s x.card))

-- Spoil takes the blank back
abbrev pub spoil_answer : State → Blank → Answer
spoil_answer d x = answered (blank_rule (held d) x ∷ []) Back

-- Count answers how many cards are out, how many are written and how many blanks were spoiled
abbrev pub count_answer : State → Answer
count_answer d = Counts (tally (held d).out d.n) (tally (held d).written d.n) d.spoiled

-- what each call answers
abbrev pub answer : Scheme → State → Call → Answer
answer S d (Take j) = take_answer d j
answer S d (Write x p s room) = write_answer S d x p s room
answer S d (Spoil x) = spoil_answer d x
answer S d Count = count_answer d

-- a new deal: all cards wait
abbrev pub fresh : DealMark → (t n L : ℕ) → State
fresh mark t n L = record { mark = mark; t = t; n = n; len = L; cards = replicate 8 Waiting; granted = 0; spoiled = 0 }

-- card j put elsewhere, and so many more blanks granted and spoiled
abbrev pub moved : State → (j : ℕ) → CardState → (granted spoiled : ℕ) → State
moved d j to granted spoiled = record {
  mark = d.mark;
  t = d.t;
  n = d.n;
  len = d.len;
  cards = slice_set d.cards j to;
  granted = d.granted + granted;
  spoiled = d.spoiled + spoiled;
}

-- what the deal holds after an answer: a granted Take puts the card out; a blank that is written or spoiled is spent
abbrev pub settled : State → (j : ℕ) → Answer → State
settled d j (Refused number carries) = cond (number == 0x24 || number == 0x25) (moved d j Waiting 0 1) d
settled d j (Given x) = moved d j Out 1 0
settled d j (Data numbers) = moved d j Written 0 0
settled d j Back = moved d j Waiting 0 1
settled d j (Counts out written spoiled) = d

-- what the deal holds after each call
abbrev pub take_after : State → (j : ℕ) → State
take_after d j = settled d j (take_answer d j)

abbrev pub write_after : Scheme → State → Blank → Plan → (store : List ℕ) → (room : ℕ) → State
write_after S d x p s room = settled d x.card (write_answer S d x p s room)

abbrev pub spoil_after : State → Blank → State
spoil_after d x = settled d x.card (spoil_answer d x)

abbrev pub after : Scheme → State → Call → State
after S d (Take j) = take_after d j
after S d (Write x p s room) = write_after S d x p s room
after S d (Spoil x) = spoil_after d x
after S d Count = d

-- the answers of Take, Write and Spoil as the code gives them
abbrev pub gave : Result Blank Refusal → Answer
gave (Ok x) = Given x
gave (Err e) = Refused (listing e).0 (listing e).1

abbrev pub wrote : {T : Type 0} → Result T Refusal → (place : List ℕ) → Answer
wrote (Ok x) place = Data place
wrote (Err e) place = Refused (listing e).0 (listing e).1

abbrev pub brought : {T : Type 0} → Result T Refusal → Answer
brought (Ok x) = Back
brought (Err e) = Refused (listing e).0 (listing e).1
