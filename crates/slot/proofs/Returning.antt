-- A slot that holds t cards of a deal under an admitted plan gives the deal's key back; and with that all that Unlock promises
-- of an answer. Assumes nothing.
use Rattle.std.proofs.Common.{◌≡◌, ℕ, ◌≤◌, true, false, not, eqb, List, [], length, get_or, is_some, is_ok, Some, None, Ok, Err, Option, Result, unwrap_or, sym, refl, ap, ◌∙◌, subst}
use Rattle.std.proofs.lemmas.Bool.{and_from, eq-eqb, true≢false}
use Rattle.field.specs.Codes.{Laws, Operations}
use Rattle.field.specs.declared.refusal.Refusal.{Refusal}
use Rattle.linear.proofs.Coded.{zero_code}
use Rattle.sharing.specs.Scheme.{Codes, Deal, Plan, card, lanes, store}
use Rattle.sharing.specs.Secrecy.{Admits}
use Rattle.opening.specs.Answers.{Allowed, data_of}
use Rattle.opening.specs.Tables.{room}
use Rattle.opening.proofs.Deals.{data_codes}
use Rattle.opening.proofs.Faultless.{Faultless, table_faultless}
use Rattle.opening.proofs.GivingBack.{gives_back}
use Rattle.slot.specs.Holdings.{Holding}
use Rattle.slot.specs.Inserts.{held_at}
use Rattle.slot.specs.Unlocks.{Coded, GivesKey, OnlyUnlocked, Settled, Unlocked, data_held, lowest, no_code_held, other_plan, raised, size_held}
use Rattle.slot.specs.declared.phase.Heading.{Heading}
use Rattle.slot.specs.declared.refusal.SlotRefusal.{SlotRefusal}
use Rattle.slot.proofs.Coding.{data_codes as held-codes}
use Rattle.slot.proofs.Lowest.{data_written, lowest_all}
use Rattle.slot.proofs.Unlocking.{Fair, Fitting, data_long, lowest_fit, only_unlocked, same_table, size_limits}

same_granted : (inner : Result (Unit {0}) Refusal) → is_ok (raised inner) ≡ is_ok inner
same_granted (Ok u) = refl
same_granted (Err e) = refl

-- a plan with the heading's t and n
same_plan : (p : Plan) (h : Heading) → h.t ≡ p.t → h.n ≡ p.n → other_plan (Some h) p ≡ false
same_plan p h et en = ap not (and_from (eqb h.t p.t) (eqb h.n p.n) (eq-eqb h.t p.t et) (eq-eqb h.n p.n en))

-- cards of which each that is held is the card of a store
card_is : (c : Option (List ℕ)) (ns : List ℕ) → ((numbers : List ℕ) → c ≡ Some numbers → numbers ≡ ns) → is_some c ≡ true → unwrap_or c [] ≡ ns
card_is (Some d) ns each e = each d refl
card_is None ns each e = absurd (true≢false (sym e))

module _ {o : Operations} (laws : Laws o) (p : Plan) (s : Holding) (fair : Fair s) (before after : List ℕ) (workspace : ℕ)
    (r : Result (Unit {0}) SlotRefusal) (answer : Unlocked o p s before after workspace r) where
  abbrev L : ℕ
  L = size_held s

  module _ (key dummies : List ℕ) (fits : Fitting o p s) (admits : Admits o p) (deal : Deal o p L key dummies)
      (each : (k : ℕ) (numbers : List ℕ) → held_at s k ≡ Some numbers → numbers ≡ card o p (lanes p.t L) (store p.t L key dummies) k)
      (placed : length before ≡ L) (enough : room ≤ workspace) where
    abbrev numbers : List ℕ
    numbers = lowest p.t s.cards

    abbrev written : List ℕ
    written = data_of o p (lanes p.t L) (store p.t L key dummies) numbers

    copied : data_held s.cards numbers ≡ written
    copied =
        let dealt = card o p (lanes p.t L) (store p.t L key dummies) in
        data_written o p (lanes p.t L) (store p.t L key dummies) s.cards numbers
        (lowest_all (λ j. unwrap_or (get_or s.cards j None) [] ≡ dealt j) p.t s.cards (λ j e. card_is (held_at s j) (dealt j) (each j) e))

    faultless : Faultless o p numbers (data_held s.cards numbers) L (length before) workspace
    faultless =
        record {
          sound = fits.sound;
          numbers = lowest_fit o p s fair fits;
          measure =
              record {
                some = (size_limits o p s fair fits).0;
                most = (size_limits o p s fair fits).1;
                long = data_long o p s fair fits;
                codes = subst (Codes o) (sym copied) (data_codes laws p (lanes p.t L) (store p.t L key dummies) numbers);
              };
          placed = placed;
        }

    key_given : (is_ok r ≡ true) × (after ≡ key)
    key_given =
        let none = table_faultless o p numbers (data_held s.cards numbers) L (length before) workspace faultless enough in
        let settled = subst (Settled o p s before after r) (sym (same_table o p s fair fits (length before) workspace) ∙ none) answer in
        let n = lowest_fit o p s fair fits in
        let back = gives_back laws p numbers (data_held s.cards numbers) L before after workspace settled.0
        (subst (Allowed o p numbers (data_held s.cards numbers) L before after settled.0) (sym none) settled.2)
        key dummies fits.sound admits deal n.count n.below n.different copied placed enough in
        (ap is_ok settled.1 ∙ same_granted settled.0 ∙ back.0, back.1)

  gives_key : GivesKey o p s before after workspace r
  gives_key key dummies size h sound admits deal first et en es each many placed enough =
      let is : size ≡ L = sym es ∙ ap (λ (x : Option Heading). elim x [ Some h ↦ h.size | None ↦ 0 ]) (sym first) in
      let fits : Fitting o p s =
      record { sound = sound; same = ap (λ x. other_plan x p) first ∙ same_plan p h et en; enough = many } in
      key_given key dummies fits admits (subst (λ n. Deal o p n key dummies) is deal)
      (subst (λ n. (k : ℕ) (numbers : List ℕ) → held_at s k ≡ Some numbers → numbers ≡ card o p (lanes p.t n) (store p.t n key dummies) k) is each)
      (placed ∙ is) enough

-- all that Unlock promises of an answer, but for the workspace
pub record Promised (o : Operations) (p : Plan) (s : Holding) (before after : List ℕ) (workspace : ℕ) (r : Result (Unit {0}) SlotRefusal) : Type 0 where
  pub answer : Unlocked o p s before after workspace r
  pub only : OnlyUnlocked o p s before after workspace r
  pub deals : GivesKey o p s before after workspace r
  pub codes : Coded o s → no_code_held o p.t s.cards ≡ None

pub promised : {o : Operations} → Laws o → (p : Plan) (s : Holding) → Fair s → (before after : List ℕ) (workspace : ℕ) (r : Result (Unit {0}) SlotRefusal)
    → Unlocked o p s before after workspace r → Promised o p s before after workspace r
promised {o} laws p s fair before after workspace r answer = record {
  answer = answer;
  only = only_unlocked o p s fair before after workspace r answer;
  deals = gives_key laws p s fair before after workspace r answer;
  codes = λ coded. held-codes o (zero_code laws) s coded (lowest p.t s.cards);
}
