-- The lowest cards of a slot, as a loop over them comes to each. Assumes nothing.
use Rattle.std.proofs.Common.{◌≡◌, ℕ, ◌<◌, Bool, true, false, List, length, get_or, take, Some, None, Option, sym, ap, ◌∙◌, subst, ⊎_elim, arith}
use Rattle.std.specs.Fn.{CalledAt}
use Rattle.std.specs.Iterator.{Yields}
use Rattle.std.specs.Iterator.Adapters.{filter_callee, filter_source, filter_steps, take_count, take_source, take_steps}
use Rattle.std.specs.List.{filter, range_with_len}
use Rattle.std.specs.declared.iter.Filter.{Filter}
use Rattle.std.specs.declared.iter.Take.{Take}
use Rattle.std.specs.declared.ops.Range.{Range}
use Rattle.std.proofs.ByRecursion.{All-get_or}
use Rattle.std.proofs.iter.Yields.{nat_range_steps}
use Rattle.std.proofs.lemmas.Bool.{cases_lt, true≢false}
use Rattle.std.proofs.lemmas.Iterator.{YieldsList, YieldsList-from_range, YieldsList-from_take}
use Rattle.std.proofs.lemmas.Iterator.Consumers.{YieldsList-end, YieldsList-from_filter, YieldsList-turn}
use Rattle.std.proofs.lemmas.List.{get_or_past, map-id}
use Rattle.slot.specs.Holdings.{holding}
use Rattle.slot.specs.Unlocks.{lowest}
use Rattle.slot.specs.declared.memory.State.{State}
use Rattle.slot.proofs.Gathering.{lowest_most, numbers_filtered}
use Rattle.slot.proofs.Lowest.{lowest_all}
use Rattle.slot.proofs.Putting.{cards_length, held_flag}
use denote.Param.Members.{Mut}
use denote.Ref.{Bor}

module _ (s : State) (eight : length s.held ≡ 8) (t : ℕ) where
  abbrev flag : ℕ → Bool
  flag k = get_or s.held k false

  abbrev all : List ℕ
  all = lowest t (holding s).cards

  by_flags : take t (filter flag (range_with_len 0 8)) ≡ all
  by_flags =
      ap (take t)
      (ap (λ n. filter flag (range_with_len 0 n)) (sym (cards_length s))
      ∙ numbers_filtered flag 0 (holding s).cards (λ i h. ap flag (omega arith) ∙ sym (held_flag s i eight)))

  -- the card that comes after some of them
  pub record Next (numbers : List ℕ) (card : ℕ) : Type 0 where
    pub few : length numbers < 8
    pub on : get_or s.held card false ≡ true
    pub small : card < 8

  next : (numbers : List ℕ) (card : ℕ) → length numbers < length all → card ≡ get_or all (length numbers) card → Next numbers card
  next numbers card below is =
      let on = subst (λ j. flag j ≡ true) (sym is)
      (All-get_or (λ j. flag j ≡ true) all (length numbers) card below (lowest_all (λ j. flag j ≡ true) t (holding s).cards (λ j e. sym (held_flag s j eight) ∙ e))) in
      record {
        few = omega (arith, lowest_most t (holding s).cards, cards_length s);
        on = on;
        small = ⊎_elim (λ lt. lt) (λ past. absurd (true≢false (sym on ∙ get_or_past s.held card false (omega (arith, past))))) (cases_lt card 8);
      }

  module _ {F : Type 0} {g : Mut F (Bor ℕ × Unit {0}) Bool} {i : Take (Filter (Range ℕ) F)}
      (range : filter_source (take_source i) ≡ record { start = 0; end = 8 }) (many : take_count i ≡ t)
      (test : (x : ℕ) (b : Bool) (q : F) → CalledAt g (filter_callee (take_source i)) x b q → (q ≡ filter_callee (take_source i)) × (b ≡ flag x)) where
    abbrev steps : Take (Filter (Range ℕ) F) → Option ℕ → Take (Filter (Range ℕ) F) → Type 0
    steps = take_steps (filter_steps nat_range_steps g)

    road : YieldsList steps (λ x. x) i (take t (filter flag (range_with_len 0 8)))
    road =
        YieldsList-from_take t (YieldsList-from_filter g flag (YieldsList-from_range 0 8 8 range (omega arith)) (λ k. filter_callee (take_source i)) test) many

    pub next_card : (xs : List ℕ) (j k : Take (Filter (Range ℕ) F)) (r : Option ℕ) (card : ℕ) → Yields steps i xs j → r ≡ Some card → steps j r k → Next xs card
    next_card xs j k r card y is step =
        let turn = YieldsList-turn road xs j y r k card is step in
        next xs card (subst (λ l. length xs < length l) by_flags turn.0) (turn.1 ∙ ap (λ l. get_or l (length xs) card) by_flags)

    pub all_cards : (xs : List ℕ) (j k : Take (Filter (Range ℕ) F)) (r : Option ℕ) → Yields steps i xs j → r ≡ None → steps j r k → xs ≡ all
    all_cards xs j k r y is step = sym (map-id xs) ∙ (YieldsList-end road xs j y r k is step).0 ∙ by_flags
