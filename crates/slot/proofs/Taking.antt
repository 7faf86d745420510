-- What a slot holds, and what goes on holding of it, once a card was taken out. Assumes nothing.
use Rattle.std.proofs.Common.{◌≡◌, ℕ, ◌+◌, ◌*◌, ◌<◌, ◌≤◌, true, false, cond, eqb, length, get_or, take, drop, set, replicate, Some, None, Option, sym, ap, ◌∙◌, subst, ⊎_elim, arith}
use Rattle.std.proofs.lemmas.List.{length-set, get_or-set_same, get_or-set_other, length-replicate}
use Rattle.std.proofs.lemmas.Bool.{cases_eq, true≢false}
use Rattle.slot.specs.Holdings.{card_at, card_length, count, holding, most, tally}
use Rattle.slot.specs.Inserts.{pulled}
use Rattle.slot.specs.Phases.{first_heading}
use Rattle.slot.specs.States.{laid, taken}
use Rattle.slot.specs.declared.memory.State.{State}
use Rattle.slot.specs.declared.phase.Heading.{Heading}
use Rattle.slot.proofs.Counting.{count_cards, tally_some}
use Rattle.slot.proofs.Holding.{set_counted, most_eight, length_fits}
use Rattle.slot.proofs.Phasing.{heading_of_phase, heading-kept, limits_after, right_phase}
use Rattle.slot.proofs.Putting.{Sound, other_card}
use Rattle.slot.proofs.Windows.{laid_length, other_window}

module _ (s : State) (sound : Sound s) (j : ℕ) (is : get_or s.held j false ≡ true) where
  place : j < 8
  place = omega (arith, sound.below j is, most_eight (first_heading s.phase) sound.limits)

  zeros : length (replicate {A = ℕ} 70 0) ≡ 70
  zeros = length-replicate {A = ℕ} 70 0

  within_memory : 70 * j + length (replicate {A = ℕ} 70 0) ≤ length s.memory
  within_memory = omega (arith, zeros, place, sound.long)

  flag_stays : (k : ℕ) → get_or (set s.held j false) k false ≡ true → (k ≡ j → ⊥) × (get_or s.held k false ≡ true)
  flag_stays k e =
      ⊎_elim
      (λ same. absurd (true≢false (sym e ∙ ap (λ i. get_or (set s.held j false) i false) same ∙ get_or-set_same s.held j false false (omega (arith, place, sound.eight)))))
      (λ ne. (ne, sym (get_or-set_other s.held j k false false ne) ∙ e))
      (cases_eq k j)

  stays : (k : ℕ) → get_or (set s.held j false) k false ≡ true → first_heading (taken s j).phase ≡ first_heading s.phase
  stays k e =
      let o = first_heading s.phase in
      let was = sound.below k (flag_stays k e).1 in
      let within : k < length (set s.held j false) = omega (arith, was, most_eight o sound.limits, length-set s.held j false, sound.eight) in
      heading-kept o (tally (set s.held j false)) (tally_some (set s.held j false) k within e)

  pub taken_sound : Sound (taken s j)
  taken_sound = record {
    long = laid_length s.memory (70 * j) (replicate {A = ℕ} 70 0) within_memory ∙ sound.long;
    eight = length-set s.held j false ∙ sound.eight;
    limits = limits_after (first_heading s.phase) (tally (set s.held j false)) sound.limits;
    phased = right_phase (first_heading s.phase) (tally (set s.held j false)) (λ e. absurd (omega (arith, sound.below j is, ap most e)));
    below = λ k e. let goal = λ (o : Option Heading). k < most o in subst goal (sym (stays k e)) (sound.below k (flag_stays k e).1);
  }

  pub taken_holding : holding (taken s j) ≡ pulled (holding s) j
  taken_holding =
      let o = first_heading s.phase in
      let flags = set s.held j false in
      let zs = replicate {A = ℕ} 70 0 in
      let m = laid s.memory (70 * j) zs in
      let len = card_length (first_heading (taken s j).phase) in
      let here : card_at flags m len j ≡ None =
      ap (λ b. cond b (Some (take len (drop (70 * j) m))) None) (get_or-set_same s.held j false false (omega (arith, place, sound.eight))) in
      let cards = set_counted (card_at s.held s.memory (card_length o)) (card_at flags m len) 8 j None place here
      (λ k lt ne. other_card s.held flags s.memory m (card_length o) len k (get_or-set_other s.held j k false false ne)
      (λ on. ap (λ x. take (card_length x) (drop (70 * k) m)) (stays k (get_or-set_other s.held j k false false ne ∙ on))
      ∙ other_window s.memory zs j k (card_length o) ne (omega (arith, zeros)) (length_fits o sound.limits) within_memory)) in
      let counted = sym (ap count cards) ∙ count_cards flags m len (length-set s.held j false ∙ sound.eight) in
      let first = heading_of_phase o (tally flags) ∙ ap (λ n. cond (eqb n 0) None o) (sym counted) in
      λ i. record { first = first i; cards = cards i }
