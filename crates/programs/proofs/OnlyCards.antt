-- A text has one way to be put into a slot, card by card, and one answer where it has none. Assumes nothing.
use Rattle.std.proofs.Common.{◌≡◌, ℕ, zero, suc, ◌+◌, ◌-◌, ◌<◌, ◌≤◌, List, [], ◌++◌, length, Some, None, Ok, Err, Option, Result, sym, refl, ap, ◌∙◌, subst, ⊎_elim, add-one, arith}
use mathlib.Core.Path.{transport}
use Rattle.std.proofs.lemmas.List.{append_cancel_left}
use Rattle.std.proofs.lemmas.Bool.{cases_eq, cases_lt}
use Rattle.field.specs.Codes.{Operations}
use Rattle.lines.specs.Lines.{Content, reading}
use Rattle.lines.specs.Writing.{written}
use Rattle.lines.specs.declared.fault.Fault.{Fault}
use Rattle.lines.specs.declared.wanted.Wanted.TheVariants as wanted
use Rattle.slot.specs.Holdings.{Holding}
use Rattle.slot.specs.Inserts.{card_table, inserted}
use Rattle.slot.specs.Refusals.{foremost, listing}
use Rattle.slot.specs.declared.refusal.SlotRefusal.{SlotRefusal}
use Rattle.programs.specs.Answers.{Answer, at_line, no_line}
use Rattle.programs.specs.Answers.Answer.{Refuses}
use Rattle.programs.specs.Gathering.{CardHead, Taken, Ungathered}
use Rattle.programs.specs.Gathering.Ungathered.{more_text, no_card, not_taken}

module _ (o : Operations) where
  -- one card at most, and one rest
  pub card_head_only : (c d : Content) (text rest less : List ℕ) → CardHead o c text rest → CardHead o d text less → (c ≡ d) × (rest ≡ less)
  card_head_only c d text rest less h k =
      let e : ◌≡◌ {A = Result Content Fault} (Ok c) (Ok d) = sym h.reads ∙ k.reads in
      let same : c ≡ d = cc in
      (same, append_cancel_left (written d) rest less (ap (λ x. written x ++ rest) (sym same) ∙ sym h.is ∙ k.is))

  pub card_head_read : (c : Content) (text rest : List ℕ) (f : Fault) → CardHead o c text rest → reading (wanted.Card o.mark) text ≡ Err f → ⊥
  card_head_read c text rest f h e =
      let no : ◌≡◌ {A = Result Content Fault} (Ok c) (Err f) = sym h.reads ∙ e in let z : ◌≡◌ {A = ℕ} 0 1 = cc in omega arith

  barred_not : (s : Holding) (c : Content) (r : SlotRefusal) → foremost (card_table o s c) ≡ None → foremost (card_table o s c) ≡ Some r → ⊥
  barred_not s c r e h = let no : ◌≡◌ {A = Option SlotRefusal} None (Some r) = sym e ∙ h in let z : ◌≡◌ {A = ℕ} 0 1 = cc in omega arith

  module _ (text : List ℕ) where
    -- so many cards lead to one holding, and one rest
    pub taken_only : (k : ℕ) (s u : Holding) (rest less : List ℕ) → Taken o k text s rest → Taken o k text u less → (s ≡ u) × (rest ≡ less)
    taken_only zero s u rest less h i = (h.0 ∙ sym i.0, h.1 ∙ sym i.1)
    taken_only (suc k) s u rest less h i =
        let before = taken_only k h.0 i.0 h.1 i.1 h.3 i.3 in
        let cards = card_head_only h.2 i.2 i.1 rest less (subst (λ m. CardHead o h.2 m rest) before.1 h.4) i.4 in
        (h.6 ∙ (λ j. inserted (before.0 j) (cards.0 j)) ∙ sym i.6, cards.1)

    -- where more cards are taken, the next one is
    pub record Next (k : ℕ) (s : Holding) (middle : List ℕ) : Type 0 where
      pub card : Content
      pub rest : List ℕ
      pub head : CardHead o card middle rest
      pub passes : foremost (card_table o s card) ≡ None
      pub taken : Taken o (k + 1) text (inserted s card) rest

    pub taken_next : (m k : ℕ) (s u : Holding) (middle rest : List ℕ) → k < m → Taken o k text s middle → Taken o m text u rest → Next k s middle
    taken_next zero k s u middle rest h t w = absurd (omega arith)
    taken_next (suc m) k s u middle rest h t w = ⊎_elim here (λ (l : k ≡ m → ⊥). taken_next m k s w.0 middle w.1 (omega arith) t w.3) (cases_eq k m)
      where
        here : k ≡ m → Next k s middle
        here e =
            let same = taken_only m s w.0 middle w.1 (subst (λ n. Taken o n text s middle) e t) w.3 in
            let head = subst (λ x. CardHead o w.2 x rest) (sym same.1) w.4 in
            let passes = ap (λ x. foremost (card_table o x w.2)) same.0 ∙ w.5 in
            record {
              card = w.2;
              rest = rest;
              head = head;
              passes = passes;
              taken = subst (λ n. Taken o n text (inserted s w.2) rest) (sym (add-one k)) (s, middle, w.2, t, head, passes, refl);
            }

    module _ (t line : ℕ) where
      -- why no card is taken after the first k
      data Stuck (k : ℕ) (s : Holding) (middle : List ℕ) (a : Answer) : Type 0 where
        faulty : (f : Fault) → reading (wanted.Card o.mark) middle ≡ Err f → a ≡ at_line f (line + k) → Stuck k s middle a
        longer : k + 1 ≡ t → (c : Content) (rest : List ℕ) → CardHead o c middle rest → 0 < length rest → a ≡ Refuses 0x46 0 no_line → Stuck k s middle a
        barred : (c : Content) (rest : List ℕ) → CardHead o c middle rest → (k + 1 ≡ t → rest ≡ []) → (r : SlotRefusal) → foremost (card_table o s c) ≡ Some r
            → a ≡ Refuses (listing r).0 (listing r).1 (line + k) → Stuck k s middle a

      record Halt (a : Answer) : Type 0 where
        k : ℕ
        below : k < t
        s : Holding
        middle : List ℕ
        taken : Taken o k text s middle
        stuck : Stuck k s middle a

      halt : (a : Answer) → 0 < t → Ungathered o t line text a → Halt a
      halt a some (no_card k below s rest tk f e is) = record { k = k; below = below; s = s; middle = rest; taken = tk; stuck = faulty f e is }
      halt a some (more_text s middle tk c rest head more is) =
          record { k = t - 1; below = omega arith; s = s; middle = middle; taken = tk; stuck = longer (omega arith) c rest head more is }
      halt a some (not_taken k below s middle tk c rest head end r e is) =
          record { k = k; below = below; s = s; middle = middle; taken = tk; stuck = barred c rest head end r e is }

      -- after the first k cards there is one answer
      stuck_only : (k : ℕ) (s : Holding) (middle : List ℕ) (a b : Answer) → Stuck k s middle a → Stuck k s middle b → a ≡ b
      stuck_only k s middle a b (faulty f e is) (faulty g h also) =
          let faults : ◌≡◌ {A = Result Content Fault} (Err f) (Err g) = sym e ∙ h in
          let same : f ≡ g = cc in
          is ∙ ap (λ x. at_line x (line + k)) same ∙ sym also
      stuck_only k s middle a b (faulty f e is) (longer l d less head more also) = absurd (card_head_read d middle less f head e)
      stuck_only k s middle a b (faulty f e is) (barred d less head end r h also) = absurd (card_head_read d middle less f head e)
      stuck_only k s middle a b (longer l c rest head more is) (faulty g h also) = absurd (card_head_read c middle rest g head h)
      stuck_only k s middle a b (longer l c rest head more is) (longer m d less head' more' also) = is ∙ sym also
      stuck_only k s middle a b (longer l c rest head more is) (barred d less head' end r h also) =
          absurd (omega (arith, ap length ((card_head_only c d middle rest less head head').1 ∙ end l)))
      stuck_only k s middle a b (barred c rest head end r h is) (faulty g e also) = absurd (card_head_read c middle rest g head e)
      stuck_only k s middle a b (barred c rest head end r h is) (longer l d less head' more also) =
          absurd (omega (arith, ap length ((card_head_only d c middle less rest head' head).1 ∙ end l)))
      stuck_only k s middle a b (barred c rest head end r h is) (barred d less head' end' q i also) =
          let both : ◌≡◌ {A = Option SlotRefusal} (Some r) (Some q) = sym h ∙ ap (λ x. foremost (card_table o s x)) (card_head_only c d middle rest less head head').0 ∙ i in
          let same : r ≡ q = cc in
          is ∙ ap (λ x. Refuses (listing x).0 (listing x).1 (line + k)) same ∙ sym also

      -- where one more card is taken, nothing stood in its way
      stuck_next : (k : ℕ) (s : Holding) (middle : List ℕ) (a : Answer) → Stuck k s middle a → (n : Next k s middle) → (k + 1 ≡ t → n.rest ≡ []) → ⊥
      stuck_next k s middle a (faulty f e is) n end = card_head_read n.card middle n.rest f n.head e
      stuck_next k s middle a (longer l c rest head more is) n end =
          omega (arith, ap length ((card_head_only c n.card middle rest n.rest head n.head).1 ∙ end l))
      stuck_next k s middle a (barred c rest head end' r h is) n end =
          barred_not s n.card r n.passes (ap (λ x. foremost (card_table o s x)) (card_head_only n.card c middle n.rest rest n.head head).0 ∙ h)

      -- t cards and nothing else are not refused
      pub taken_not_ungathered : (u : Holding) (a : Answer) → 0 < t → Taken o t text u [] → Ungathered o t line text a → ⊥
      taken_not_ungathered u a some w g =
          let h = halt a some g in
          let n = taken_next t h.k h.s u h.middle [] h.below h.taken w in
          stuck_next h.k h.s h.middle a h.stuck n
          (λ e. (taken_only t (inserted h.s n.card) u n.rest [] (subst (λ x. Taken o x text (inserted h.s n.card) n.rest) e n.taken) w).1)

      later : (a b : Answer) (h : Halt a) (i : Halt b) → h.k < i.k → ⊥
      later a b h i l =
          stuck_next h.k h.s h.middle a h.stuck (taken_next i.k h.k h.s i.s h.middle i.middle l h.taken i.taken)
          (λ e. absurd (omega (arith, i.below, l, e)))

      -- a text that is not t such cards has one answer
      pub ungathered_only : (a b : Answer) → 0 < t → Ungathered o t line text a → Ungathered o t line text b → a ≡ b
      ungathered_only a b some g g' = ⊎_elim same apart (cases_eq h.k i.k)
        where
          h : Halt a
          h = halt a some g

          i : Halt b
          i = halt b some g'

          same : h.k ≡ i.k → a ≡ b
          same e =
              let at = taken_only i.k h.s i.s h.middle i.middle (subst (λ n. Taken o n text h.s h.middle) e h.taken) i.taken in
              stuck_only i.k i.s i.middle a b (transport (λ j. Stuck (e j) (at.0 j) (at.1 j) a) h.stuck) i.stuck

          apart : (h.k ≡ i.k → ⊥) → a ≡ b
          apart e = ⊎_elim (λ l. absurd (later a b h i l)) (λ (l : i.k ≤ h.k). absurd (later b a i h (omega (arith, e)))) (cases_lt h.k i.k)
