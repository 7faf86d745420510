-- From what stands against a plan, or from Open's answer for the lowest cards, to Unlock's answer. Assumes nothing.
use Rattle.std.proofs.Common.{◌≡◌, ℕ, ◌-◌, ◌*◌, ◌<◌, ◌≤◌, true, false, cond, not, ◌&&◌, eqb, ltb, leb, List, [], ◌∷◌, ◌++◌, length, get_or, take, drop, is_some, Some, None, Ok, Err, Option, Result, unwrap_or, sym, refl, ap, ◌∙◌, subst, ap₂, arith, length-drop, length-take}
use Rattle.std.specs.Option.{option_map}
use Rattle.std.proofs.lemmas.Nat.{mul-le}
use Rattle.std.proofs.ByRecursion.{All-get_or}
use Rattle.std.proofs.lemmas.Bool.{and_from, and_parts, eq-eqb, eqb-true, le-leb, le-ltb, leb-true, lt-ltb, ltb-false, not-false}
use Rattle.field.specs.Codes.{Operations}
use Rattle.field.specs.Refusals.{Rule, foremost, refused}
use Rattle.field.specs.Rows.{within}
use Rattle.field.specs.declared.refusal.Refusal.{Refusal}
use Rattle.field.proofs.Limits.{passed_over}
use Rattle.sharing.specs.Scheme.{Plan, lanes}
use Rattle.sharing.specs.Scheme.{Sound as SoundPlan}
use Rattle.plan_check.specs.Faults.{faults}
use Rattle.plan_check.proofs.Faults.{faultless_sound, passed, passed_both, sound_faultless}
use Rattle.opening.specs.Answers.{Allowed, Answered}
use Rattle.opening.specs.Tables.{cards_table, data_place, room, table}
use Rattle.opening.proofs.Faultless.{Numbered, foremost-kept, foremost_next, numbered_faultless}
use Rattle.opening.proofs.OneAnswer.{only_answer}
use Rattle.slot.specs.Holdings.{Cards, Holding, card_length, count, holding, most, within_limits}
use Rattle.slot.specs.Inserts.{held_at}
use Rattle.slot.specs.Phases.{first_heading}
use Rattle.slot.specs.Refusals.{listing}
use Rattle.slot.specs.Unlocks.{OnlyUnlocked, Settled, Unlocked, data_held, listed, lowest, no_code_held, other_plan, plan_table, raised, size_held, told, unlock_table}
use Rattle.slot.specs.declared.memory.State.{State}
use Rattle.slot.specs.declared.phase.Heading.{Heading}
use Rattle.slot.specs.declared.refusal.SlotRefusal.{SlotRefusal}
use Rattle.slot.proofs.Holding.{length_fits, most_eight}
use Rattle.slot.proofs.Lowest.{length_data, length-lowest, lowest_all, lowest_numbered}
use Rattle.slot.proofs.Putting.{Sound, held_flag, held-numbers}

module _ (o : Operations) (p : Plan) (s : Holding) where
  abbrev of_other : Rule
  of_other = (0x52, other_plan s.first p, 0)

  abbrev of_few : Rule
  of_few = (0x54, ltb (count s.cards) p.t, count s.cards)

  -- a plan's fault stands against it
  pub fault_refused : (z : ℕ × ℕ) → foremost (faults o p) ≡ Some z → foremost (plan_table o p s) ≡ Some z
  fault_refused z = foremost-kept (faults o p) (of_other ∷ of_few ∷ []) z

  -- what stands against a plan without faults
  module _ (faultless : foremost (faults o p) ≡ None) where
    pub other_refused : other_plan s.first p ≡ true → foremost (plan_table o p s) ≡ Some (0x52, 0)
    other_refused on =
        foremost_next (faults o p) (of_other ∷ of_few ∷ []) faultless
        ∙ ap (λ b. cond b (Some (0x52, 0)) (foremost (of_few ∷ []))) on

    pub few_refused : other_plan s.first p ≡ false → count s.cards < p.t → foremost (plan_table o p s) ≡ Some (0x54, count s.cards)
    few_refused off few =
        foremost_next (faults o p) (of_other ∷ of_few ∷ []) faultless
        ∙ passed_over 0x52 0 of_other.1 (of_few ∷ []) off
        ∙ ap (λ b. cond b (Some (0x54, count s.cards)) None) (lt-ltb (count s.cards) p.t few)

    pub nothing_refused : other_plan s.first p ≡ false → p.t ≤ count s.cards → foremost (plan_table o p s) ≡ None
    nothing_refused off enough =
        foremost_next (faults o p) (of_other ∷ of_few ∷ []) faultless
        ∙ passed_over 0x52 0 of_other.1 (of_few ∷ []) off
        ∙ passed_over 0x54 of_few.2 of_few.1 [] (le-ltb (count s.cards) p.t enough)

  -- a plan that nothing stands against
  pub record Fitting : Type 0 where
    pub sound : SoundPlan o p
    pub same : other_plan s.first p ≡ false
    pub enough : p.t ≤ count s.cards

  pub fitting : foremost (plan_table o p s) ≡ None → Fitting
  fitting e =
      let both = passed_both (faults o p) (of_other ∷ of_few ∷ []) e in
      let past-other = passed of_other (of_few ∷ []) both.1 in
      let past-few = passed of_few [] past-other.1 in
      record {
        sound = faultless_sound o p both.0;
        same = past-other.0;
        enough = ltb-false (count s.cards) p.t past-few.0;
      }

-- there is room for t cards
pub held-room : (o : Operations) (p : Plan) (s : Holding) (t len : ℕ) → Fitting o p s → within_limits s.first ≡ true → t ≡ p.t
    → len ≡ card_length s.first → (t ≤ 8) × (t * len ≤ 560)
held-room o p s t len fits limits et el =
    let few : t ≤ 8 = omega (arith, fits.sound.ordered, fits.sound.most) in
    (few, omega (arith, mul-le t len 8 70 few (omega (arith, length_fits s.first limits))))

-- what always holds of what a slot holds
pub record Fair (s : Holding) : Type 0 where
  pub limits : within_limits s.first ≡ true
  pub below : (k : ℕ) → is_some (held_at s k) ≡ true → k < most s.first
  pub long : (k : ℕ) → is_some (held_at s k) ≡ true → length (unwrap_or (held_at s k) []) ≡ card_length s.first

pub fair : (s : State) → Sound s → Fair (holding s)
fair s sound = record {
  limits = sound.limits;
  below = λ k e. sound.below k (flag k e);
  long = λ k e.
      let lt : k < 8 = omega (arith, sound.below k (flag k e), most_eight (first_heading s.phase) sound.limits) in
      let len = card_length (first_heading s.phase) in
      let fits = length_fits (first_heading s.phase) sound.limits in
      ap (λ c. length (unwrap_or c [])) (held-numbers s k lt (flag k e))
      ∙ omega (arith, length-take len (drop (70 * k) s.memory), length-drop (70 * k) s.memory, sound.long);
}
  where
    flag : (k : ℕ) → is_some (held_at (holding s) k) ≡ true → get_or s.held k false ≡ true
    flag k e = sym (held_flag s k sound.eight) ∙ e

-- the heading of the cards held is the plan's
record Headed (p : Plan) (s : Holding) : Type 0 where
  all : most s.first ≡ p.n
  some : 1 ≤ size_held s
  few : size_held s ≤ 64
  long : card_length s.first ≡ p.t * lanes p.t (size_held s)

headed : (p : Plan) (first : Option Heading) (cards : Cards) → within_limits first ≡ true → other_plan first p ≡ false → 0 < most first
    → Headed p (record { first = first; cards = cards })
headed p None cards limits same some = absurd (omega arith)
headed p (Some h) cards limits same some =
    let size = and_parts (leb 1 h.size) (leb h.size 64) (and_parts (within h.t h.n) (leb 1 h.size && leb h.size 64) limits).1 in
    let both = and_parts (eqb h.t p.t) (eqb h.n p.n) (not-false (eqb h.t p.t && eqb h.n p.n) same) in
    record {
      all = eqb-true h.n p.n both.1;
      some = leb-true 1 h.size size.0;
      few = leb-true h.size 64 size.1;
      long = ap (λ t. t * lanes t h.size) (eqb-true h.t p.t both.0);
    }

told-raised : (inner : Result (Unit {0}) Refusal) → told (raised inner) ≡ refused inner
told-raised (Ok u) = refl
told-raised (Err e) = refl

module _ (o : Operations) (p : Plan) (s : Holding) (fair : Fair s) where
  abbrev numbers : List ℕ
  numbers = lowest p.t s.cards

  abbrev copied : List ℕ
  copied = data_held s.cards numbers

  -- the last lines of both tables
  abbrev last_rules : (place workspace : ℕ) → List Rule
  last_rules place workspace =
      (0x35, is_some (no_code_held o p.t s.cards), unwrap_or (option_map (data_place numbers (p.t * lanes p.t (size_held s))) (no_code_held o p.t s.cards)) 0)
      ∷ (0x36, not (eqb place (size_held s)), 0)
      ∷ (0x37, ltb workspace room, 0)
      ∷ []

  -- Open's table for the lowest cards, where nothing stands against the plan
  module _ (fits : Fitting o p s) where
    heading : Headed p s
    heading =
        let many = length-lowest p.t s.cards fits.enough in
        let first = All-get_or (λ j. j < most s.first) numbers 0 0 (omega (arith, fits.sound.least)) (lowest_all (λ j. j < most s.first) p.t s.cards fair.below) in
        headed p s.first s.cards fair.limits fits.same (omega (arith, first))

    pub lowest_fit : Numbered p.t p.n numbers
    lowest_fit = lowest_numbered p.t p.n s.cards fits.enough (λ j e. omega (arith, fair.below j e, heading.all))

    pub data_long : length copied ≡ p.t * (p.t * lanes p.t (size_held s))
    data_long =
        let each = lowest_all (λ j. length (unwrap_or (get_or s.cards j None) []) ≡ card_length s.first) p.t s.cards fair.long in
        length_data s.cards (card_length s.first) numbers each
        ∙ ap₂ (λ m n. m * n) (length-lowest p.t s.cards fits.enough) heading.long

    pub size_limits : (1 ≤ size_held s) × (size_held s ≤ 64)
    size_limits = (heading.some, heading.few)

    -- its lines 30 to 34 never hold, so that it comes to Unlock's
    pub same_table : (place workspace : ℕ) → foremost (table o p numbers copied (size_held s) place workspace) ≡ foremost (unlock_table o p s place workspace)
    same_table place workspace =
        let L = size_held s in
        let last : List Rule = last_rules place workspace in
        let long : Rule = (0x34, not (eqb (length copied) (p.t * (p.t * lanes p.t L))), 0) in
        let size : Rule = (0x33, not (leb 1 L && leb L 64), 0) in
        foremost_next (faults o p) (cards_table p.t p.n numbers ++ size ∷ long ∷ last) (sound_faultless o p fits.sound)
        ∙ foremost_next (cards_table p.t p.n numbers) (size ∷ long ∷ last) (numbered_faultless p.t p.n numbers lowest_fit)
        ∙ passed_over 0x33 0 size.1 (long ∷ last) (ap not (and_from (leb 1 L) (leb L 64) (le-leb 1 L heading.some) (le-leb L 64 heading.few)))
        ∙ passed_over 0x34 0 long.1 last (ap not (eq-eqb (length copied) (p.t * (p.t * lanes p.t L)) data_long))
        ∙ sym (foremost_next (plan_table o p s) last (nothing_refused o p s (sound_faultless o p fits.sound) fits.same fits.enough))

  module _ (before after : List ℕ) where
    settled-answer : (f : Option (ℕ × ℕ)) (inner : Result (Unit {0}) Refusal) → Allowed o p numbers copied (size_held s) before after inner f
        → Settled o p s before after (raised inner) f
    settled-answer (Some z) inner allowed = (told-raised inner ∙ allowed.0, allowed.1)
    settled-answer None inner allowed = (inner, refl, allowed)

    -- Open's answer goes up
    pub unlocked_answer : (workspace : ℕ) (inner : Result (Unit {0}) Refusal) → Fitting o p s
        → Answered o p numbers copied (size_held s) before after workspace inner → Unlocked o p s before after workspace (raised inner)
    unlocked_answer workspace inner fits answered =
        settled-answer (foremost (unlock_table o p s (length before) workspace)) inner
        (subst (Allowed o p numbers copied (size_held s) before after inner) (same_table fits (length before) workspace) answered)

    -- what stands against the plan is refused
    pub unlocked_refusal : (workspace : ℕ) (e : SlotRefusal) → listed (Some e) ≡ foremost (plan_table o p s) → after ≡ before
        → Unlocked o p s before after workspace (Err e)
    unlocked_refusal workspace e found same =
        subst (Settled o p s before after (Err e))
        (sym (foremost-kept (plan_table o p s) (last_rules (length before) workspace) ((listing e).0, (listing e).1) (sym found)))
        (refl, same)

    -- an answer that is allowed is the only one
    module _ (workspace : ℕ) (r : Result (Unit {0}) SlotRefusal) where
      once : (f : Option (ℕ × ℕ)) → foremost (unlock_table o p s (length before) workspace) ≡ f → Settled o p s before after r f
          → (place : List ℕ) (other : Result (Unit {0}) SlotRefusal) → Settled o p s before place other f → (told other ≡ told r) × (place ≡ after)
      once (Some z) e settled place other settled' = (settled'.0 ∙ sym settled.0, settled'.1 ∙ sym settled.1)
      once None e settled place other settled' =
          let fits = fitting o p s (passed_both (plan_table o p s) (last_rules (length before) workspace) e).0 in
          let none = same_table fits (length before) workspace ∙ e in
          let L = size_held s in
          let only =
          only_answer o p numbers copied L before after workspace settled.0
          (subst (Allowed o p numbers copied L before after settled.0) (sym none) settled.2)
          place settled'.0
          (subst (Allowed o p numbers copied L before place settled'.0) (sym none) settled'.2) in
          (ap told settled'.1 ∙ told-raised settled'.0 ∙ only.0 ∙ sym (ap told settled.1 ∙ told-raised settled.0), only.1)

      pub only_unlocked : Unlocked o p s before after workspace r → OnlyUnlocked o p s before after workspace r
      only_unlocked answer place other = once (foremost (unlock_table o p s (length before) workspace)) refl answer place other

    -- Open is handed the lowest cards as they were laid out
    pub unlocked_open : (t len L : ℕ) (ns ds : List ℕ) (workspace : ℕ) (inner : Result (Unit {0}) Refusal) → Fitting o p s → t ≡ p.t
        → len ≡ card_length s.first → L ≡ size_held s → ns ≡ lowest t s.cards
        → take (length (lowest t s.cards) * card_length s.first) ds ≡ data_held s.cards (lowest t s.cards)
        → Answered o p ns (take (t * len - 0) ds) L before after workspace inner → Unlocked o p s before after workspace (raised inner)
    unlocked_open t len L ns ds workspace inner fits et el es front laid answered =
        let many = length-lowest t s.cards (omega (arith, fits.enough)) in
        let cards : ns ≡ numbers = front ∙ ap (λ n. lowest n s.cards) et in
        let held : take (t * len - 0) ds ≡ copied =
        ap (λ n. take n ds) (omega (arith, ap₂ (λ m n. m * n) many (sym el))) ∙ laid ∙ ap (λ n. data_held s.cards (lowest n s.cards)) et in
        unlocked_answer workspace inner fits
        (subst (λ xs. Answered o p xs copied (size_held s) before after workspace inner) cards
        (subst (λ xs. Answered o p ns xs (size_held s) before after workspace inner) held
        (subst (λ n. Answered o p ns (take (t * len - 0) ds) n before after workspace inner) es answered)))
