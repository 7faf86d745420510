-- A blank that is taken in its turn is granted, and so is the card that is written on it. Assumes nothing.
use Rattle.std.proofs.Common.{◌≡◌, ℕ, ◌+◌, ◌-◌, ◌*◌, ◌<◌, ◌≤◌, false, cond, not, ◌&&◌, ◌||◌, eqb, ltb, leb, List, [], ◌∷◌, ◌++◌, map, length, get_or, set, is_some, Some, None, Option, sym, refl, ap, ◌∙◌, subst, ⊎_elim, append-nil, arith, length-set, get_or-set_other, get_or-set_same}
use native.Mathlib.Nat.{mul-div-le}
use Rattle.std.specs.List.{range_with_len}
use Rattle.std.proofs.lemmas.Bool.{and_parts, cases_eq, cases_lt, eq-eqb, le-ltb, lt-ltb, lt-leb, leb-true, not-false}
use Rattle.std.proofs.lemmas.List.FromFn.{map-range_with_len_more}
use Rattle.std.proofs.lemmas.List.{get_or-replicate}
use Rattle.field.specs.Codes.{Operations}
use Rattle.field.specs.Refusals.{Rule, foremost}
use Rattle.field.proofs.Limits.{passed_over}
use Rattle.sharing.specs.Scheme.{Plan, Sound, lanes, card}
use Rattle.plan_check.specs.Faults.{faults}
use Rattle.plan_check.proofs.Faults.{passed, passed_both, faultless_sound}
use Rattle.deal.specs.Faults.{begin_rules, store_rules, at_fault, stray_padding}
use Rattle.deal.specs.Sharings.{rotated}
use Rattle.deal.specs.Calls.{Answer, fresh, held, is_out, is_written, moved, settled, standing, take_answer, take_after, take_rules, write_answer, write_after, write_rules}
use Rattle.deal.specs.Calls.Answer.{Refused, Given, Data}
use Rattle.deal.specs.declared.state.Blank.{Blank}
use Rattle.deal.specs.declared.state.State.{State}
use Rattle.deal.specs.declared.state.CardState.TheVariants.{Waiting, Out, Written}
use Rattle.lines.specs.Lines.{Content}
use Rattle.lines.specs.declared.mark.DealMark.{DealMark}
use Rattle.lines.specs.Writing.{written}
use Rattle.programs.specs.Progress.{Ready}
use Rattle.programs.specs.Texts.{card_line, text_of}
use Rattle.programs.proofs.Blocks.{text_of-append}

-- what Begin's table says where it passes: the plan is sound, the length is within limits, the store fits
module _ (o : Operations) (p : Plan) (L : ℕ) (s : List ℕ) (begun : foremost (begin_rules o p L s) ≡ None) where
  abbrev length_rule : Rule
  length_rule = (0x17, not (leb 1 L && leb L 64), 0)

  abbrev rest_rules : List Rule
  rest_rules = store_rules o p.t L s ++ at_fault 0x1A (stray_padding p.t L s) ∷ []

  past-plan : (foremost (faults o p) ≡ None) × (foremost (length_rule ∷ rest_rules) ≡ None)
  past-plan = passed_both (faults o p) (length_rule ∷ rest_rules) begun

  pub begun_sound : Sound o p
  begun_sound = faultless_sound o p past-plan.0

  pub begun_store : foremost (store_rules o p.t L s) ≡ None
  begun_store = (passed_both (store_rules o p.t L s) (at_fault 0x1A (stray_padding p.t L s) ∷ []) (passed length_rule rest_rules past-plan.1).1).0

  pub begun_length : L ≤ 64
  begun_length =
      leb-true L 64 (and_parts (leb 1 L) (leb L 64) (not-false (leb 1 L && leb L 64) (passed length_rule rest_rules past-plan.1).0)).1

  pub begun_fits : (rotated o p L).unfit s ≡ false
  begun_fits = λ i. is_some (past-plan.0 i) || is_some (begun_store i)

module _ (o : Operations) (p : Plan) (L j : ℕ) (d : State) (s : List ℕ) (begun : foremost (begin_rules o p L s) ≡ None) (ready : Ready p L j d) (below : j < p.n) where
  sound : Sound o p
  sound = begun_sound o p L s begun

  abbrev blank : Blank
  blank = record { card = j; mark = d.mark }

  waits : standing d j ≡ Waiting
  waits = ready.cards j (omega (arith, sound.most)) ∙ ap (λ b. cond b Written Waiting) (le-ltb j j (omega arith))

  take-clear : foremost (take_rules (held d) j) ≡ None
  take-clear =
      passed_over 0x20 j (leb d.n j) ((0x21, is_out (standing d j), j) ∷ (0x22, is_written (standing d j), j) ∷ (0x26, leb 200 d.granted, 0) ∷ []) (lt-leb d.n j (omega (arith, ready.n)))
      ∙ passed_over 0x21 j (is_out (standing d j)) ((0x22, is_written (standing d j), j) ∷ (0x26, leb 200 d.granted, 0) ∷ []) (ap is_out waits)
      ∙ passed_over 0x22 j (is_written (standing d j)) ((0x26, leb 200 d.granted, 0) ∷ []) (ap is_written waits)
      ∙ passed_over 0x26 0 (leb 200 d.granted) [] (lt-leb 200 d.granted (omega (arith, ready.granted, sound.most)))

  answer_of : Answer → Option (ℕ × ℕ) → Answer
  answer_of a f = elim f [ Some r ↦ Refused r.0 r.1 | None ↦ a ]

  taken : take_answer d j ≡ Given blank
  unfolding answer_of
  taken = ap (answer_of (Given blank)) take-clear

  pub take_never : (a b : ℕ) → Refused a b ≡ take_answer d j → ⊥
  take_never a b e = let f = e ∙ taken in let z : ◌≡◌ {A = ℕ} 0 1 = cc in omega arith

  abbrev out : State
  out = moved d j Out 1 0

  fits : length d.cards ≡ 8
  fits = ready.long

  small : j < length d.cards
  small = omega (arith, ready.long, sound.most)

  write_clear : (room : ℕ) → room ≡ p.t * lanes p.t L → foremost (write_rules (rotated o) (held out) blank p s room) ≡ None
  write_clear room e =
      let is = get_or-set_same d.cards j Out Waiting small in
      let room-rule : Rule = (0x25, not (eqb room (p.t * lanes p.t d.len)), 0) in
      passed_over 0x23 j (not (eqb d.mark.number d.mark.number && is_out (get_or (set d.cards j Out) j Waiting)))
      ((0x24, not (eqb p.t d.t && eqb p.n d.n) || (rotated o p d.len).unfit s, 0) ∷ room-rule ∷ [])
      (λ i. not (eq-eqb d.mark.number d.mark.number refl i && is_out (is i)))
      ∙ passed_over 0x24 0 (not (eqb p.t d.t && eqb p.n d.n) || (rotated o p d.len).unfit s) (room-rule ∷ [])
      (λ i. not (eq-eqb p.t d.t (sym ready.t) i && eq-eqb p.n d.n (sym ready.n) i) || (ap (λ l. (rotated o p l).unfit s) ready.len ∙ begun_fits o p L s begun) i)
      ∙ passed_over 0x25 0 (not (eqb room (p.t * lanes p.t d.len))) []
      (ap not (eq-eqb room (p.t * lanes p.t d.len) (e ∙ ap (λ l. p.t * lanes p.t l) (sym ready.len))))

  written_is : (room : ℕ) → room ≡ p.t * lanes p.t L → write_answer (rotated o) out blank p s room ≡ Data (card o p (lanes p.t d.len) s j)
  unfolding answer_of
  written_is room e = ap (answer_of (Data (card o p (lanes p.t d.len) s j))) (write_clear room e)

  module _ (x : Blank) (d₁ : State) (room : ℕ) (gave : Given x ≡ take_answer d j) (after : d₁ ≡ take_after d j) (long : room ≡ p.t * lanes p.t L) where
    is_blank : x ≡ blank
    is_blank = let e = gave ∙ taken in cc

    is_out_now : d₁ ≡ out
    is_out_now = after ∙ ap (settled d j) taken

    answers : write_answer (rotated o) d₁ x p s room ≡ Data (card o p (lanes p.t d.len) s j)
    answers = (λ i. write_answer (rotated o) (is_out_now i) (is_blank i) p s room) ∙ written_is room long

    pub write_never : (a b : ℕ) → Refused a b ≡ write_answer (rotated o) d₁ x p s room → ⊥
    write_never a b e = let f = e ∙ answers in let z : ◌≡◌ {A = ℕ} 0 1 = cc in omega arith

    pub write_data : (place : List ℕ) → Data place ≡ write_answer (rotated o) d₁ x p s room → place ≡ card o p (lanes p.t L) s j
    write_data place e =
        let f : Data place ≡ Data (card o p (lanes p.t d.len) s j) = e ∙ answers in
        let g : place ≡ card o p (lanes p.t d.len) s j = cc in
        g ∙ ap (λ l. card o p (lanes p.t l) s j) ready.len

    -- one card more is written
    next_cards : (i : ℕ) → i < 8 → get_or (set (set d.cards j Out) j Written) i Waiting ≡ cond (ltb i (j + 1)) Written Waiting
    next_cards i h =
        ⊎_elim
        (λ (e : i ≡ j).
        ap (λ k. get_or (set (set d.cards j Out) j Written) k Waiting) e
        ∙ get_or-set_same (set d.cards j Out) j Written Waiting (omega (arith, length-set d.cards j Out, small))
        ∙ ap (λ b. cond b Written Waiting) (sym (lt-ltb i (j + 1) (omega (arith, e)))))
        (λ (e : i ≡ j → ⊥).
        get_or-set_other (set d.cards j Out) j i Written Waiting e
        ∙ get_or-set_other d.cards j i Out Waiting e
        ∙ ready.cards i h
        ∙ ap (λ b. cond b Written Waiting) (same i e))
        (cases_eq i j)
      where
        same : (i : ℕ) → (i ≡ j → ⊥) → ltb i j ≡ ltb i (j + 1)
        same i e = ⊎_elim (λ l. lt-ltb i j l ∙ sym (lt-ltb i (j + 1) (omega arith))) (λ l. le-ltb i j l ∙ sym (le-ltb i (j + 1) (omega arith))) (cases_lt i j)

    pub write_ready : (d₂ : State) → d₂ ≡ write_after (rotated o) d₁ x p s room → Ready p L (j + 1) d₂
    write_ready d₂ e =
        let is : d₂ ≡ moved out j Written 0 0 = e ∙ (λ i. settled (is_out_now i) (is_blank i).card (answers i)) in
        subst (Ready p L (j + 1)) (sym is) (record {
          t = ready.t;
          n = ready.n;
          len = ready.len;
          long = length-set (set d.cards j Out) j Written ∙ length-set d.cards j Out ∙ ready.long;
          cards = next_cards;
          granted = omega (arith, ready.granted);
        })

-- a new deal is ready for its first card
pub ready_fresh : (p : Plan) (L : ℕ) (mark : DealMark) (d : State) → d ≡ fresh mark p.t p.n L → Ready p L 0 d
ready_fresh p L mark d e = subst (Ready p L 0) (sym e) (record {
  t = refl;
  n = refl;
  len = refl;
  long = refl;
  cards = λ i h. get_or-replicate 8 i Waiting Waiting h ∙ sym (ap (λ b. cond b Written Waiting) (le-ltb i 0 (omega arith)));
  granted = refl;
})

-- the text of one card more
pub cards_more : (o : Operations) (p : Plan) (mark L : ℕ) (s : List ℕ) (j : ℕ) (text text' : List ℕ) (f t n : ℕ) (numbers : List ℕ)
    → text ≡ text_of (map (λ i. card_line o.mark mark p.t p.n i L (card o p (lanes p.t L) s i)) (range_with_len 0 j))
    → f ≡ o.mark → t ≡ p.t → n ≡ p.n → numbers ≡ card o p (lanes p.t L) s j
    → text' ≡ text ++ written (card_line f mark t n j L numbers)
    → text' ≡ text_of (map (λ i. card_line o.mark mark p.t p.n i L (card o p (lanes p.t L) s i)) (range_with_len 0 (j + 1)))
cards_more o p mark L s j text text' f t n numbers was ef et en ed now =
    let line : ℕ → Content = λ i. card_line o.mark mark p.t p.n i L (card o p (lanes p.t L) s i) in
    now
    ∙ (λ i. was i ++ written (card_line (ef i) mark (et i) (en i) j L (ed i)))
    ∙ ap (λ l. text_of (map line (range_with_len 0 j)) ++ l) (sym (append-nil (written (line j))))
    ∙ sym (text_of-append (map line (range_with_len 0 j)) (line j ∷ []))
    ∙ ap text_of (sym (map-range_with_len_more line 0 j j (omega arith)))

-- a card has at most 72 numbers
pub most-numbers : (o : Operations) (p : Plan) (L : ℕ) (s : List ℕ) → foremost (begin_rules o p L s) ≡ None → (L ≤ 64) × (p.t * lanes p.t L ≤ 72) × (2 ≤ p.t) × (p.n ≤ 8)
most-numbers o p L s begun =
    let sound = begun_sound o p L s begun in
    let len = begun_length o p L s begun in
    (len, omega (arith, mul-div-le (L + (p.t - 1)) p.t, sound.ordered, sound.most, len), sound.least, sound.most)
