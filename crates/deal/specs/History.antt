-- The history of a deal, told in its own words, and the law of accounts. Assumes nothing.
--   Event              a call and its answer; a history lists the events, the newest first
--   gave_blank         the event is a granted Take
--   was_written        a granted Write
--   was_spoiled        a granted Spoil, or a Write refused with 24 or 25
--   spent              a Write that got past 23, or a granted Spoil
--   granted, written, spoiled   how many blanks were granted, written and spoiled, by the history alone
--   out                card j is out: it was taken, and its blank has not been spent since
--   done               card j is written
--   state, history     the deal after a list of calls, the newest first, and what happened
--   Accounts           the law of accounts
use Rattle.std.specs.Prelude.{◌≡◌, ℕ, ◌+◌, ◌≤◌, Bool, true, false, cond, not, ◌&&◌, ◌||◌, List, [], ◌∷◌, ◌==◌}
use Rattle.sharing.specs.Scheme.{Plan}
use Rattle.deal.specs.declared.state.Blank.{Blank}
use Rattle.deal.specs.declared.state.State.{State}
use Rattle.deal.specs.Sharings.{Scheme}
use Rattle.deal.specs.Calls.{Call, Answer, Facts, take_rules, blank_rule, write_rules, answered, tally, answer, after}
use Rattle.deal.specs.Calls.Call.{Take, Write, Spoil, Count}
use Rattle.deal.specs.Calls.Answer.{Refused, Given, Data, Back, Counts}

pub record Event : Type 0 where
  pub call : Call
  pub result : Answer

-- which call it is
abbrev pub is_take : Call → Bool
is_take (Take j) = true
is_take (Write x p s room) = false
is_take (Spoil x) = false
is_take Count = false

abbrev pub is_write : Call → Bool
is_write (Take j) = false
is_write (Write x p s room) = true
is_write (Spoil x) = false
is_write Count = false

abbrev pub is_spoil : Call → Bool
is_spoil (Take j) = false
is_spoil (Write x p s room) = false
is_spoil (Spoil x) = true
is_spoil Count = false

-- whether a call is about card j
abbrev pub is_of : Call → (j : ℕ) → Bool
is_of (Take i) j = i == j
is_of (Write x p s room) j = x.card == j
is_of (Spoil x) j = x.card == j
is_of Count j = false

-- whether an answer is the refusal with that number
abbrev pub is_refused : Answer → (number : ℕ) → Bool
is_refused (Refused m carries) number = m == number
is_refused (Given x) number = false
is_refused (Data numbers) number = false
is_refused Back number = false
is_refused (Counts a b c) number = false

-- whether an answer is no refusal
abbrev pub is_granted : Answer → Bool
is_granted (Refused m carries) = false
is_granted (Given x) = true
is_granted (Data numbers) = true
is_granted Back = true
is_granted (Counts a b c) = true

-- a granted Take
abbrev pub gave_blank : Event → Bool
gave_blank e = is_take e.call && is_granted e.result

-- a granted Write
abbrev pub was_written : Event → Bool
was_written e = is_write e.call && is_granted e.result

-- a granted Spoil, or a Write refused with 24 or 25
abbrev pub was_spoiled : Event → Bool
was_spoiled e =
    (is_spoil e.call && is_granted e.result)
    || (is_write e.call && (is_refused e.result 0x24 || is_refused e.result 0x25))

-- a Write that got past 23, or a granted Spoil
abbrev pub spent : Event → Bool
spent e =
    (is_write e.call && not (is_refused e.result 0x23))
    || (is_spoil e.call && is_granted e.result)

-- how many events of a history are of one sort
abbrev pub how_many : (Event → Bool) → List Event → ℕ
how_many sort [] = 0
how_many sort (e ∷ h) = how_many sort h + cond (sort e) 1 0

-- granted, written and spoiled, by the history alone
abbrev pub granted : List Event → ℕ
granted h = how_many gave_blank h

abbrev pub written : List Event → ℕ
written h = how_many was_written h

abbrev pub spoiled : List Event → ℕ
spoiled h = how_many was_spoiled h

-- of the events that gave or spent a blank of card j, the newest gave it
abbrev pub out : List Event → (j : ℕ) → Bool
out [] j = false
out (e ∷ h) j = cond (gave_blank e && is_of e.call j) true (cond (spent e && is_of e.call j) false (out h j))

-- a Write of card j was granted
abbrev pub done : List Event → (j : ℕ) → Bool
done [] j = false
done (e ∷ h) j = (was_written e && is_of e.call j) || done h j

-- the calls, the newest first, were made one after the other on the deal d
abbrev pub state : Scheme → State → List Call → State
state S d [] = d
state S d (c ∷ earlier) = after S (state S d earlier) c

-- and these are the events: each call with the answer that the deal gave it then
abbrev pub history : Scheme → State → List Call → List Event
history S d [] = []
history S d (c ∷ earlier) =
    record { call = c; result = answer S (state S d earlier) c } ∷ history S d earlier

-- what a history tells of the deal d
abbrev pub told : State → List Event → Facts
told d h = record {
  mark = d.mark;
  t = d.t;
  n = d.n;
  len = d.len;
  out = out h;
  written = done h;
  granted = granted h;
}

-- after any calls: each blank granted is out, written or spoiled, at most 200 are granted, and Count answers how many are
-- out, written and spoiled; Take, Write and Spoil are refused exactly as their tables say of what the history tells
pub record Accounts (S : Scheme) (d : State) : Type 0 where
  pub balance :
      (calls : List Call)
      → granted (history S d calls)
      ≡ tally (out (history S d calls)) d.n + written (history S d calls) + spoiled (history S d calls)
  pub most : (calls : List Call) → granted (history S d calls) ≤ 200
  pub counts :
      (calls : List Call)
      → answer S (state S d calls) Count
      ≡ Counts (tally (out (history S d calls)) d.n) (written (history S d calls)) (spoiled (history S d calls))
  pub takes :
      (calls : List Call) (j : ℕ)
      → answer S (state S d calls) (Take j)
      ≡ answered (take_rules (told d (history S d calls)) j) (Given (record { card = j; mark = d.mark }))
  pub writes :
      (calls : List Call) (x : Blank) (p : Plan) (s : List ℕ) (room : ℕ)
      → answer S (state S d calls) (Write x p s room)
      ≡ answered (write_rules S (told d (history S d calls)) x p s room) (Data ((S p d.len).card s x.card))
  pub spoils :
      (calls : List Call) (x : Blank)
      → answer S (state S d calls) (Spoil x) ≡ answered (blank_rule (told d (history S d calls)) x ∷ []) Back
