-- What an onlooker sees of a deal, and the law that it tells nothing of the key. Assumes nothing.
--   among      card j is among the cards that the onlooker has
--   seen       what the onlooker sees of an event: every answer, and the data of a written card only if it is among these
--   view       all that the onlooker sees of a history
--   handed     a call, with Write handed this plan and this store
--   looked     what the onlooker sees of a deal over a list of calls, each Write handed this plan and store
--   Hidden     for every other key of that length some dummy keys give the same view, and just one set does if the
--              onlooker has all the cards it may have
--   Onlooker   the law of the onlooker: two deals begun from one plan, with one mark and length, each from its own store
--   Begun      what is known of a deal that Begin granted
--   DealLaws   the law of accounts and the law of the onlooker in one statement
use Rattle.std.specs.Prelude.{◌≡◌, ℕ, ◌-◌, ◌≤◌, Bool, true, false, cond, ◌||◌, List, [], ◌∷◌, map, length, None, ◌==◌}
use Rattle.field.specs.Codes.{Operations}
use Rattle.sharing.specs.Groups.{Group, Holds}
use Rattle.field.specs.Refusals.{foremost}
use Rattle.sharing.specs.Scheme.{Plan, Sound, Key, Dummies, Deal, store}
use Rattle.sharing.specs.Secrecy.{Vets}
use Rattle.lines.specs.declared.mark.DealMark.{DealMark}
use Rattle.deal.specs.declared.state.State.{State}
use Rattle.deal.specs.Faults.{begin_rules}
use Rattle.deal.specs.Sharings.{Scheme, rotated}
use Rattle.deal.specs.Calls.{Call, Answer, fresh}
use Rattle.deal.specs.Calls.Call.{Take, Write, Spoil, Count}
use Rattle.deal.specs.Calls.Answer.{Refused, Given, Data, Back, Counts}
use Rattle.deal.specs.History.{Event, done, history, Accounts}

-- card j is one of these
abbrev pub among : List ℕ → (j : ℕ) → Bool
among [] j = false
among (i ∷ g) j = i == j || among g j

-- an answer, without the data of a card that the onlooker has not
abbrev pub shown : Bool → Answer → Answer
shown has (Refused number carries) = Refused number carries
shown has (Given x) = Given x
shown has (Data numbers) = Data (cond has numbers [])
shown has Back = Back
shown has (Counts a b c) = Counts a b c

-- an answer as the onlooker who has these cards sees it
abbrev pub seen : List ℕ → Call → Answer → Answer
seen g (Take j) a = a
seen g (Write x p s room) a = shown (among g x.card) a
seen g (Spoil x) a = a
seen g Count a = a

-- all answers of a history as the onlooker sees them
abbrev pub view : List ℕ → List Event → List Answer
view g h = map (λ e. seen g e.call e.result) h

-- the same call, with Write handed this plan and store
abbrev pub handed : Plan → (store : List ℕ) → Call → Call
handed p s (Take j) = Take j
handed p s (Write x q r room) = Write x p s room
handed p s (Spoil x) = Spoil x
handed p s Count = Count

-- what the onlooker sees while the calls are made on the deal d with this plan and store
abbrev pub looked : Scheme → State → List ℕ → Plan → List Call → (store : List ℕ) → List Answer
looked S d g p calls s = view g (history S d (map (handed p s) calls))

-- a deal's store has a key of one sort and dummy keys of another; the onlooker has at most k cards, all of them written
pub record Hidden (S : Scheme) (d : State) (p : Plan) (k : ℕ) (IsKey IsDummies : List ℕ → Type 0) (laid : List ℕ → List ℕ → List ℕ) (key dummies : List ℕ) : Type 0 where
  pub some :
      (calls : List Call) (g : List ℕ) → Group d.n (length g) g → length g ≤ k
      → ((j : ℕ) → Holds g j → done (history S d (map (handed p (laid key dummies)) calls)) j ≡ true)
      → (key' : List ℕ) → IsKey key'
      → (found : List ℕ) × IsDummies found
      × (looked S d g p calls (laid key' found) ≡ looked S d g p calls (laid key dummies))
  pub only :
      (calls : List Call) (g : List ℕ) → Group d.n (length g) g → length g ≡ k
      → ((j : ℕ) → Holds g j → done (history S d (map (handed p (laid key dummies)) calls)) j ≡ true)
      → (key' : List ℕ) → IsKey key'
      → (one other : List ℕ) → IsDummies one → IsDummies other
      → looked S d g p calls (laid key' one) ≡ looked S d g p calls (laid key dummies)
      → looked S d g p calls (laid key' other) ≡ looked S d g p calls (laid key dummies)
      → one ≡ other

-- the law for the rotated scheme: Begin takes every other key's store too, and what the onlooker sees hides the key
pub record Onlooker (o : Operations) (d : State) (p : Plan) (key dummies : List ℕ) : Type 0 where
  pub begins :
      (key' dummies' : List ℕ) → Key o d.len key' → Dummies o p.t d.len dummies'
      → foremost (begin_rules o p d.len (store p.t d.len key' dummies')) ≡ None
  pub hidden :
      Hidden (rotated o) d p (p.t - 1) (Key o d.len) (Dummies o p.t d.len) (store p.t d.len) key dummies

-- a deal d begun from the plan p and the store s: s holds a key and dummy keys, and the law stands if p is vetted here
abbrev pub Begun : Operations → State → Plan → (s : List ℕ) → Type 0
Begun o d p s =
    (key : List ℕ) × (dummies : List ℕ) × Deal o p d.len key dummies × (s ≡ store p.t d.len key dummies)
    × (Vets o p → Onlooker o d p key dummies)

-- both laws, for every sound plan, mark and key length
pub record DealLaws (o : Operations) : Type 0 where
  pub accounts : (p : Plan) → Sound o p → (mark : DealMark) (L : ℕ) → Accounts (rotated o) (fresh mark p.t p.n L)
  pub onlooker :
      (p : Plan) → Sound o p → Vets o p → (mark : DealMark) (L : ℕ) (key dummies : List ℕ) → Deal o p L key dummies
      → Onlooker o (fresh mark p.t p.n L) p key dummies
