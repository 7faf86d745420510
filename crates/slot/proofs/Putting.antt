-- What a slot holds, and what goes on holding of it, once a card was put in or taken out. Assumes nothing.
use Rattle.std.proofs.Common.{◌≡◌, ℕ, ◌+◌, ◌*◌, ◌<◌, ◌≤◌, Bool, true, false, cond, List, map, length, get_or, take, drop, set, is_some as option_is_some, Some, None, Option, unwrap_or, sym, refl, ap, ◌∙◌, subst, ⊎_elim, arith}
use Rattle.std.specs.List.{range_with_len}
use Rattle.std.proofs.lemmas.List.FromFn.{get_or-map-range_with_len, length-map-range_with_len}
use Rattle.std.proofs.lemmas.List.{length-set, get_or-set_same, get_or-set_other, get_or_past}
use Rattle.std.proofs.lemmas.Bool.{cases_eq, cases_lt}
use Rattle.slot.specs.Holdings.{card_at, card_length, holding, most, tally, within_limits}
use Rattle.slot.specs.Inserts.{differs, held_at}
use Rattle.slot.specs.Phases.{first_heading, in_phase}
use Rattle.slot.specs.States.{laid, put}
use Rattle.slot.specs.declared.memory.State.{State}
use Rattle.slot.specs.declared.phase.Heading.{Heading}
use Rattle.slot.proofs.Counting.{tally_put}
use Rattle.slot.proofs.Holding.{set_counted, card_fits, number_below, same_length, same_most, first_stays, limits_stay}
use Rattle.slot.proofs.Phasing.{heading-kept, limits_after, right_phase}
use Rattle.slot.proofs.Windows.{laid_length, laid_window, other_window}

-- a card whose flag and numbers are as they were
pub other_card : (held flags : List Bool) (m n : List ℕ) (len room k : ℕ) → get_or flags k false ≡ get_or held k false → (get_or held k false ≡ true → take room (drop (70 * k) n) ≡ take len (drop (70 * k) m)) → card_at flags n room k ≡ card_at held m len k
other_card held flags m n len room k e same = go (get_or held k false) refl
  where
    go : (b : Bool) → get_or held k false ≡ b → card_at flags n room k ≡ card_at held m len k
    go true h =
        ap (λ x. cond x (Some (take room (drop (70 * k) n))) None) (e ∙ h)
        ∙ ap Some (same h)
        ∙ sym (ap (λ x. cond x (Some (take len (drop (70 * k) m))) None) h)
    go false h =
        ap (λ x. cond x (Some (take room (drop (70 * k) n))) None) (e ∙ h)
        ∙ sym (ap (λ x. cond x (Some (take len (drop (70 * k) m))) None) h)

is_some : (b : Bool) (x : List ℕ) → option_is_some (cond b (Some x) None) ≡ b
is_some true x = refl
is_some false x = refl

-- a card is held exactly if its flag is set
pub held_flag : (s : State) (j : ℕ) → length s.held ≡ 8 → option_is_some (held_at (holding s) j) ≡ get_or s.held j false
held_flag s j eight = ⊎_elim inside outside (cases_lt j 8)
  where
    inside : j < 8 → option_is_some (held_at (holding s) j) ≡ get_or s.held j false
    inside lt =
        ap option_is_some (get_or-map-range_with_len (card_at s.held s.memory (card_length (first_heading s.phase))) 0 8 j j None lt (omega arith))
        ∙ is_some (get_or s.held j false) (take (card_length (first_heading s.phase)) (drop (70 * j) s.memory))

    outside : 8 ≤ j → option_is_some (held_at (holding s) j) ≡ get_or s.held j false
    outside le =
        ap option_is_some (get_or_past (holding s).cards j None (omega (arith, le, length-map-range_with_len (card_at s.held s.memory (card_length (first_heading s.phase))) 0 8)))
        ∙ sym (get_or_past s.held j false (omega (arith, le, eight)))

pub cards_length : (s : State) → length (holding s).cards ≡ 8
cards_length s = length-map-range_with_len (card_at s.held s.memory (card_length (first_heading s.phase))) 0 8

-- the numbers of a card whose flag is set
pub held-numbers : (s : State) (j : ℕ) → j < 8 → get_or s.held j false ≡ true
    → held_at (holding s) j ≡ Some (take (card_length (first_heading s.phase)) (drop (70 * j) s.memory))
held-numbers s j lt on =
    get_or-map-range_with_len (card_at s.held s.memory (card_length (first_heading s.phase))) 0 8 j j None lt (omega arith)
    ∙ ap (λ b. cond b (Some (take (card_length (first_heading s.phase)) (drop (70 * j) s.memory))) None) on

-- what always holds of a slot's memory
pub record Sound (s : State) : Type 0 where
  pub long : length s.memory ≡ 560
  pub eight : length s.held ≡ 8
  pub limits : within_limits (first_heading s.phase) ≡ true
  pub phased : in_phase s.phase (tally s.held) ≡ true
  pub below : (k : ℕ) → get_or s.held k false ≡ true → k < most (first_heading s.phase)

module _ (s : State) (sound : Sound s) (h : Heading) (j : ℕ) (ns : List ℕ) (fine : within_limits (Some h) ≡ true) (jn : j < h.n)
    (nl : length ns ≡ card_length (Some h)) (same : differs (first_heading s.phase) h ≡ false) (free : get_or s.held j false ≡ false) where
  place : j < 8
  place = number_below h j fine jn

  numbers_fit : length ns ≤ 70
  numbers_fit = omega (arith, nl, card_fits h fine)

  within_memory : 70 * j + length ns ≤ length s.memory
  within_memory = omega (arith, numbers_fit, place, sound.long)

  some : 0 < tally (set s.held j true)
  some = omega (arith, tally_put s.held j (omega (arith, place, sound.eight)) free)

  stays : first_heading (put s h j ns).phase ≡ Some (unwrap_or (first_heading s.phase) h)
  stays = heading-kept (Some (unwrap_or (first_heading s.phase) h)) (tally (set s.held j true)) some

  put_below : (k : ℕ) → get_or (set s.held j true) k false ≡ true → k < most (first_heading (put s h j ns).phase)
  put_below k e =
      let goal = λ (o : Option Heading). k < most o in
      subst goal (sym stays)
      (⊎_elim
      (λ is. omega (arith, is, jn, same_most (first_heading s.phase) h same))
      (λ ne.
      let was = sound.below k (sym (get_or-set_other s.held j k true false ne) ∙ e) in
      subst goal (first_stays (first_heading s.phase) h k was) was)
      (cases_eq k j))

  pub put_sound : Sound (put s h j ns)
  put_sound = record {
    long = laid_length s.memory (70 * j) ns within_memory ∙ sound.long;
    eight = length-set s.held j true ∙ sound.eight;
    limits = limits_after (Some (unwrap_or (first_heading s.phase) h)) (tally (set s.held j true)) (limits_stay (first_heading s.phase) h sound.limits fine);
    phased = right_phase (Some (unwrap_or (first_heading s.phase) h)) (tally (set s.held j true)) (λ e. let z : ◌≡◌ {A = ℕ} 0 1 = cc in absurd (omega arith));
    below = put_below;
  }

  pub put_holding : holding (put s h j ns) ≡ record { first = Some (unwrap_or (first_heading s.phase) h); cards = set (holding s).cards j (Some ns) }
  put_holding =
      let o = first_heading s.phase in
      let hh = unwrap_or o h in
      let flags = set s.held j true in
      let m = laid s.memory (70 * j) ns in
      let len = card_length (Some hh) in
      let long = same_length o h same ∙ sym nl in
      let here : card_at flags m len j ≡ Some ns =
      ap (λ b. cond b (Some (take len (drop (70 * j) m))) None) (get_or-set_same s.held j true false (omega (arith, place, sound.eight)))
      ∙ ap (λ k. Some (take k (drop (70 * j) m))) long
      ∙ ap Some (laid_window s.memory (70 * j) ns within_memory) in
      let cards = set_counted (card_at s.held s.memory (card_length o)) (card_at flags m len) 8 j (Some ns) place here
      (λ k lt ne. other_card s.held flags s.memory m (card_length o) len k (get_or-set_other s.held j k true false ne)
      (λ is. other_window s.memory ns j k len ne numbers_fit (omega (arith, long, numbers_fit)) within_memory
      ∙ ap (λ x. take (card_length x) (drop (70 * k) s.memory)) (sym (first_stays o h k (sound.below k is))))) in
      λ i. record { first = stays i; cards = (ap (λ x. map (card_at flags m (card_length x)) (range_with_len 0 8)) stays ∙ cards) i }
