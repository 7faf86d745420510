-- What Insert answers and leaves, once a card was read and nothing of it is refused. Assumes nothing.
use Rattle.std.proofs.Common.{◌≡◌, ℕ, ◌+◌, ◌*◌, Bool, true, false, cond, List, [], ◌∷◌, get_or, is_some, Some, None, Ok, Err, Result, unwrap_or, sym, refl, ap, ◌∙◌, arith}
use Rattle.field.specs.Codes.{Operations}
use Rattle.lines.specs.Lines.{Content}
use Rattle.lines.specs.declared.fault.Fault.{Fault}
use Rattle.plan_check.specs.Faults.{first_no_code}
use Rattle.field.specs.declared.refusal.Refusal.TheVariants.{DataCode}
use Rattle.slot.specs.Cards.{card_content, numbers}
use Rattle.slot.specs.Holdings.{holding}
use Rattle.slot.specs.Inserts.{card_read, card_table, differs, heading_of, held_at, inserted, insert_after, insert_memory, insert_refusal, number_of}
use Rattle.slot.specs.Phases.{first_heading}
use Rattle.slot.specs.Refusals.{foremost}
use Rattle.slot.specs.States.{put}
use Rattle.slot.specs.declared.card.Card.{Card}
use Rattle.slot.specs.declared.memory.State.{State}
use Rattle.slot.specs.declared.refusal.SlotRefusal.{SlotRefusal}
use Rattle.slot.specs.declared.refusal.SlotRefusal.TheVariants.{Line, Shared, OtherDeal, HeldAlready}
use Rattle.slot.proofs.Putting.{Sound, held_flag, put_sound, put_holding}

-- none of a table holds, so its first does not
pub passed : (b : Bool) (x : SlotRefusal) (rest : List (Bool × SlotRefusal)) → foremost ((b, x) ∷ rest) ≡ None → (b ≡ false) × (foremost rest ≡ None)
passed true x rest e = let z : ◌≡◌ {A = ℕ} 0 1 = cc in absurd (omega arith)
passed false x rest e = (refl, e)

module _ (o : Operations) (s : State) (text : List ℕ) (k : Content) (read : Ok k ≡ card_read o.mark text) (none : foremost (card_table o (holding s) k) ≡ None) where
  pub granted : None ≡ insert_refusal o (holding s) text
  granted =
      sym none
      ∙ ap (λ (r : Result Content Fault). elim r [ Ok c ↦ foremost (card_table o (holding s) c) | Err f ↦ Some (Line f) ]) read

  pub held_after : inserted (holding s) k ≡ insert_after o (holding s) text
  held_after =
      ap (λ r. cond (is_some r) (holding s) (inserted (holding s) k)) (sym none)
      ∙ ap (λ (r : Result Content Fault). elim r [ Ok c ↦ cond (is_some (foremost (card_table o (holding s) c))) (holding s) (inserted (holding s) c) | Err f ↦ holding s ]) read

  pub memory_after : put s (heading_of k) (number_of k) k.numbers ≡ insert_memory o s text
  memory_after =
      ap (λ r. cond (is_some r) s (put s (heading_of k) (number_of k) k.numbers)) (sym none)
      ∙ ap (λ (r : Result Content Fault). elim r [ Ok c ↦ cond (is_some (foremost (card_table o (holding s) c))) s (put s (heading_of c) (number_of c) c.numbers) | Err f ↦ s ]) read

-- the card of which nothing is refused, in the slot
module _ (o : Operations) (mark : ℕ) (s : State) (sound : Sound s) (card : Card)
    (none : foremost (card_table o (holding s) (card_content mark card)) ≡ None) where
  others : (differs (first_heading s.phase) card.heading ≡ false) × (is_some (held_at (holding s) card.number) ≡ false)
  others =
      let last = (is_some (held_at (holding s) card.number), HeldAlready card.number) ∷ [] in
      let a = passed (is_some (first_no_code o (numbers card))) (Shared (DataCode (256 * card.number + unwrap_or (first_no_code o (numbers card)) 0)))
      ((differs (first_heading s.phase) card.heading, OtherDeal) ∷ last) none in
      let b = passed (differs (first_heading s.phase) card.heading) OtherDeal last a.1 in
      let d = passed (is_some (held_at (holding s) card.number)) (HeldAlready card.number) [] b.1 in
      (b.0, d.0)

  free : get_or s.held card.number false ≡ false
  free = sym (held_flag s card.number sound.eight) ∙ others.1

  pub card_sound : Sound (put s card.heading card.number (numbers card))
  card_sound = put_sound s sound card.heading card.number (numbers card) card.limits card.below card.long others.0 free

  pub card_holding : holding (put s card.heading card.number (numbers card)) ≡ inserted (holding s) (card_content mark card)
  card_holding = put_holding s sound card.heading card.number (numbers card) card.limits card.below card.long others.0 free
