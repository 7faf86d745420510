-- What comes of a card line that is handed to the slot, alone or with all text behind it. Assumes nothing.
use Rattle.std.proofs.Common.{◌≡◌, ℕ, zero, suc, ◌+◌, ◌-◌, ◌<◌, ◌≤◌, Bool, true, false, cond, eqb, List, [], ◌∷◌, length, drop, is_some, Some, None, Ok, Err, Option, Result, sym, refl, ap, ◌∙◌, subst, ⊎_elim, zero-add, add-one, arith, length-take}
use Rattle.std.specs.List.{AllByRecursion}
use Rattle.std.proofs.lemmas.List.{nil_from_length}
use Rattle.std.proofs.lemmas.Bool.{le-ltb, ne_eqb, cases_eq}
use Rattle.field.specs.Codes.{Operations}
use Rattle.lines.specs.Faults.{fault_carries, fault_number}
use Rattle.lines.specs.Lines.{Content, head, reading}
use Rattle.lines.specs.Readers.{Stand, ending, left, line_text, longest_text, stepped}
use Rattle.lines.specs.RoundTrips.{rest}
use Rattle.lines.specs.declared.fault.Fault.{Fault}
use Rattle.lines.specs.declared.fault.Fault.TheVariants.{Excess}
use Rattle.lines.specs.declared.wanted.Wanted.TheVariants as wanted
use Rattle.lines.proofs.Readings.{read_err, read_err_line}
use Rattle.lines.proofs.Rewriting.{rewrites}
use Rattle.lines.proofs.Skipping.{line_alone, reading_line}
use Rattle.slot.specs.Holdings.{Holding}
use Rattle.slot.specs.Inserts.{card_read, card_table, closed, insert_after, insert_refusal, inserted, nothing, read_from, read_on}
use Rattle.slot.specs.Refusals.{foremost, listing}
use Rattle.slot.specs.declared.refusal.SlotRefusal.{SlotRefusal}
use Rattle.slot.specs.declared.refusal.SlotRefusal.TheVariants.{Line}
use Rattle.programs.specs.Answers.{Answer, at_line, no_line}
use Rattle.programs.specs.Answers.Answer.{Refuses}
use Rattle.programs.specs.Gathering.{CardHead, Short, Taken, Ungathered, at_card}
use Rattle.programs.specs.Gathering.Ungathered.{more_text, no_card, not_taken}

-- what every refusal of a table keeps to, the foremost one keeps to
foremost_all : (P : SlotRefusal → Type 0) (xs : List (Bool × SlotRefusal)) (e : SlotRefusal) → AllByRecursion (λ x. P x.1) xs → foremost xs ≡ Some e → P e
foremost_all P [] e u h = let z : ◌≡◌ {A = ℕ} 0 1 = cc in absurd (omega arith)
foremost_all P (x ∷ xs) e u h = go x.0 refl (foremost_all P xs e u.1)
  where
    go : (b : Bool) → x.0 ≡ b → (foremost xs ≡ Some e → P e) → P e
    go true p ih =
        let q : Some x.1 ≡ Some e = sym (ap (λ b. cond b (Some x.1) (foremost xs)) p) ∙ h in
        let r : x.1 ≡ e = cc in
        subst P r u.0
    go false p ih = ih (sym (ap (λ b. cond b (Some x.1) (foremost xs)) p) ∙ h)

result_cases : {A : Type 0} (r : Result Content Fault) → ((c : Content) → r ≡ Ok c → A) → ((f : Fault) → r ≡ Err f → A) → A
result_cases (Ok c) f g = f c refl
result_cases (Err e) f g = g e refl

-- the text of a card that is not too long
module _ (mark : ℕ) (text : List ℕ) (short : length text ≤ longest_text) where
  abbrev start : Stand
  start = record { text = text; start = 0; number = 0 }

  card_read_by : card_read mark text ≡ read_on start (reading (wanted.Card mark) text)
  card_read_by = ap (λ b. read_from mark (cond b (Err Excess) (Ok start))) (le-ltb longest_text (length text) short)

  after_line : left (stepped start) ≡ rest text
  after_line = ap (λ n. drop n text) (zero-add (length (head text) + 1))

  card_fault : (f : Fault) → reading (wanted.Card mark) text ≡ Err f → card_read mark text ≡ Err f
  card_fault f e = card_read_by ∙ ap (read_on start) e

  card_alone : (c : Content) → reading (wanted.Card mark) text ≡ Ok c → rest text ≡ [] → card_read mark text ≡ Ok c
  card_alone c e alone = card_read_by ∙ ap (read_on start) e ∙ ap (λ l. closed c (ending l)) (after_line ∙ alone)

  card_more : (c : Content) → reading (wanted.Card mark) text ≡ Ok c → (length (rest text) ≡ 0 → ⊥) → card_read mark text ≡ Err Excess
  card_more c e more =
      card_read_by
      ∙ ap (read_on start) e
      ∙ ap (λ l. closed c (ending l)) after_line
      ∙ ap (λ b. closed c (cond b (Ok tt) (Err Excess))) (ne_eqb (length (rest text)) 0 more)

-- a card at the head of a text
pub card_head : (o : Operations) (c : Content) (text : List ℕ) → reading (wanted.Card o.mark) text ≡ Ok c → CardHead o c text (rest text)
card_head o c text e = record { reads = e; is = sym (rewrites (wanted.Card o.mark) text c e).1 }

-- how a refusal of a card is told: a fault of its line, or what the slot has against the card
pub data Card-refused (o : Operations) (s : Holding) (text : List ℕ) (line : ℕ) (e : SlotRefusal) : Type 0 where
  at_fault : (f : Fault) → reading (wanted.Card o.mark) text ≡ Err f → at_card e line ≡ at_line f line → Card-refused o s text line e
  by_slot : (c : Content) → CardHead o c text (rest text) → foremost (card_table o s c) ≡ Some e
      → at_card e line ≡ Refuses (listing e).0 (listing e).1 line → Card-refused o s text line e

pub record Card-taken (o : Operations) (s after : Holding) (text : List ℕ) : Type 0 where
  pub card : Content
  pub head : CardHead o card text (rest text)
  pub passes : foremost (card_table o s card) ≡ None
  pub holds : after ≡ inserted s card

module _ (o : Operations) (s : Holding) where
  abbrev refusal_by : Result Content Fault → Option SlotRefusal
  refusal_by r = elim r [ Ok c ↦ foremost (card_table o s c) | Err f ↦ Some (Line f) ]

  abbrev after_by : Result Content Fault → Holding
  after_by r = elim r [ Ok c ↦ cond (is_some (foremost (card_table o s c))) s (inserted s c) | Err f ↦ s ]

  -- a line's fault
  faulty : (text : List ℕ) (line : ℕ) (e : SlotRefusal) (f : Fault) → reading (wanted.Card o.mark) text ≡ Err f → Some (Line f) ≡ Some e → Card-refused o s text line e
  faulty text line e f r h =
      let is : Line f ≡ e = cc in
      at_fault f r
      (subst (λ x. at_card x line ≡ at_line f line) is
      (ap (λ b. Refuses (fault_number f) (fault_carries f) (cond b no_line line)) (read_err_line (wanted.Card o.mark) text f r)))

  -- what stands against the card
  barred : (text : List ℕ) (line : ℕ) (e : SlotRefusal) (c : Content) → reading (wanted.Card o.mark) text ≡ Ok c → foremost (card_table o s c) ≡ Some e → Card-refused o s text line e
  barred text line e c r h =
      by_slot c (card_head o c text r) h
      (ap (λ b. Refuses (listing e).0 (listing e).1 (cond b no_line line))
      (foremost_all (λ x. eqb (listing x).0 0x46 ≡ false) (card_table o s c) e (refl, (refl, (refl, tt))) h))

  -- a card that the slot took
  taking : (text : List ℕ) (after : Holding) (c : Content) → reading (wanted.Card o.mark) text ≡ Ok c → foremost (card_table o s c) ≡ None
      → after ≡ cond (is_some (foremost (card_table o s c))) s (inserted s c) → Card-taken o s after text
  taking text after c r h e = record {
    card = c;
    head = card_head o c text r;
    passes = h;
    holds = e ∙ ap (λ x. cond (is_some x) s (inserted s c)) h;
  }

  -- one line, cut off from the text behind it
  module _ (text : List ℕ) (short : length text ≤ longest_text) where
    cut_short : length (line_text text) ≤ longest_text
    cut_short = omega (arith, short, length-take (length (head text) + 1) text)

    cut_read : card_read o.mark (line_text text) ≡ reading (wanted.Card o.mark) text
    cut_read =
        result_cases (reading (wanted.Card o.mark) text)
        (λ c e. card_alone o.mark (line_text text) cut_short c (reading_line text (wanted.Card o.mark) ∙ e) (line_alone text) ∙ sym e)
        (λ f e. card_fault o.mark (line_text text) cut_short f (reading_line text (wanted.Card o.mark) ∙ e) ∙ sym e)

    pub line_refused : (line : ℕ) (e : SlotRefusal) → insert_refusal o s (line_text text) ≡ Some e → Card-refused o s text line e
    line_refused line e h =
        let by : refusal_by (reading (wanted.Card o.mark) text) ≡ Some e = ap refusal_by (sym cut_read) ∙ h in
        result_cases (reading (wanted.Card o.mark) text)
        (λ c r. barred text line e c r (ap refusal_by (sym r) ∙ by))
        (λ f r. faulty text line e f r (ap refusal_by (sym r) ∙ by))

    pub line_taken : (after : Holding) → insert_refusal o s (line_text text) ≡ None → after ≡ insert_after o s (line_text text) → Card-taken o s after text
    line_taken after h a =
        let by : refusal_by (reading (wanted.Card o.mark) text) ≡ None = ap refusal_by (sym cut_read) ∙ h in
        let then : after ≡ after_by (reading (wanted.Card o.mark) text) = a ∙ ap after_by cut_read in
        result_cases (reading (wanted.Card o.mark) text)
        (λ c r. taking text after c r (ap refusal_by (sym r) ∙ by) (then ∙ ap after_by r))
        (λ f r. let no : ◌≡◌ {A = Option SlotRefusal} (Some (Line f)) None = ap refusal_by (sym r) ∙ by in let z : ◌≡◌ {A = ℕ} 0 1 = cc in absurd (omega arith))

    -- the last card, with all text that is left
    pub data Last-refused (line : ℕ) (e : SlotRefusal) : Type 0 where
      more : (c : Content) → CardHead o c text (rest text) → 0 < length (rest text) → at_card e line ≡ Refuses 0x46 0 no_line → Last-refused line e
      alone : Card-refused o s text line e → ((c : Content) → reading (wanted.Card o.mark) text ≡ Ok c → rest text ≡ []) → Last-refused line e

    pub last_refused : (line : ℕ) (e : SlotRefusal) → insert_refusal o s text ≡ Some e → Last-refused line e
    last_refused line e h =
        result_cases (reading (wanted.Card o.mark) text)
        (λ c r. ⊎_elim
        (λ (z : length (rest text) ≡ 0).
        let nil = nil_from_length (rest text) z in
        alone (barred text line e c r (ap refusal_by (sym (card_alone o.mark text short c r nil)) ∙ h)) (λ d q. nil))
        (λ (z : length (rest text) ≡ 0 → ⊥).
        let is : Some (Line Excess) ≡ Some e = ap refusal_by (sym (card_more o.mark text short c r z)) ∙ h in
        let same : Line Excess ≡ e = cc in
        more c (card_head o c text r) (omega (arith, z)) (subst (λ x. at_card x line ≡ Refuses 0x46 0 no_line) same refl))
        (cases_eq (length (rest text)) 0))
        (λ f r. alone (faulty text line e f r (ap refusal_by (sym (card_fault o.mark text short f r)) ∙ h))
        (λ c q. let no : ◌≡◌ {A = Result Content Fault} (Ok c) (Err f) = sym q ∙ r in let z : ◌≡◌ {A = ℕ} 0 1 = cc in absurd (omega arith)))

    pub last_taken : (after : Holding) → insert_refusal o s text ≡ None → after ≡ insert_after o s text → Card-taken o s after text × (rest text ≡ [])
    last_taken after h a =
        result_cases (reading (wanted.Card o.mark) text)
        (λ c r. ⊎_elim
        (λ (z : length (rest text) ≡ 0).
        let nil = nil_from_length (rest text) z in
        let is = card_alone o.mark text short c r nil in
        (taking text after c r (ap refusal_by (sym is) ∙ h) (a ∙ ap after_by is), nil))
        (λ (z : length (rest text) ≡ 0 → ⊥).
        let no : ◌≡◌ {A = Option SlotRefusal} (Some (Line Excess)) None = ap refusal_by (sym (card_more o.mark text short c r z)) ∙ h in
        let w : ◌≡◌ {A = ℕ} 0 1 = cc in absurd (omega arith))
        (cases_eq (length (rest text)) 0))
        (λ f r. let no : ◌≡◌ {A = Option SlotRefusal} (Some (Line f)) None = ap refusal_by (sym (card_fault o.mark text short f r)) ∙ h in let z : ◌≡◌ {A = ℕ} 0 1 = cc in absurd (omega arith))

    -- what a refusal carries lies within the text
    pub refused_short : (e : SlotRefusal) → insert_refusal o s text ≡ Some e → Short e
    refused_short e h =
        result_cases (card_read o.mark text)
        (λ c r. foremost_all Short (card_table o s c) e (tt, (tt, (tt, tt))) (ap refusal_by (sym r) ∙ h))
        (λ f r.
        let is : Some (Line f) ≡ Some e = ap refusal_by (sym r) ∙ h in
        let same : Line f ≡ e = cc in
        subst Short same (read_short f r))
      where
        read_short : (f : Fault) → card_read o.mark text ≡ Err f → fault_carries f ≤ 4096
        read_short f r =
            result_cases (reading (wanted.Card o.mark) text)
            (λ c q. ⊎_elim
            (λ (z : length (rest text) ≡ 0).
            let no : ◌≡◌ {A = Result Content Fault} (Ok c) (Err f) = sym (card_alone o.mark text short c q (nil_from_length (rest text) z)) ∙ r in
            let w : ◌≡◌ {A = ℕ} 0 1 = cc in absurd (omega arith))
            (λ (z : length (rest text) ≡ 0 → ⊥).
            let is : ◌≡◌ {A = Result Content Fault} (Err Excess) (Err f) = sym (card_more o.mark text short c q z) ∙ r in
            let same : Excess ≡ f = cc in
            subst (λ x. fault_carries x ≤ 4096) same (omega arith))
            (cases_eq (length (rest text)) 0))
            (λ g q.
            let is : ◌≡◌ {A = Result Content Fault} (Err g) (Err f) = sym (card_fault o.mark text short g q) ∙ r in
            let same : g ≡ f = cc in
            subst (λ x. fault_carries x ≤ 4096) same (omega (arith, read_err (wanted.Card o.mark) text g q, short)))

-- the cards of a text so far, and what comes of the next one
module _ (o : Operations) (t line : ℕ) (text : List ℕ) where
  pub taken_none : (s : Holding) (rest : List ℕ) → s ≡ nothing → rest ≡ text → Taken o 0 text s rest
  taken_none s rest e h = (e, h)

  pub taken_more : (k : ℕ) (s after : Holding) (middle : List ℕ) → Taken o k text s middle → Card-taken o s after middle → Taken o (k + 1) text after (rest middle)
  taken_more k s after middle before c =
      subst (λ n. Taken o n text after (rest middle)) (sym (add-one k)) (s, middle, c.card, before, c.head, c.passes, c.holds)

  pub unfit : (k : ℕ) (s : Holding) (middle : List ℕ) (e : SlotRefusal) (a : Answer) → k < t
      → ((c : Content) → reading (wanted.Card o.mark) middle ≡ Ok c → k + 1 ≡ t → rest middle ≡ [])
      → Taken o k text s middle → Card-refused o s middle (line + k) e → a ≡ at_card e (line + k) → Ungathered o t line text a
  unfit k s middle e a below end before (at_fault f r h) is = no_card k below s middle before f r (is ∙ h)
  unfit k s middle e a below end before (by_slot c head h w) is = not_taken k below s middle before c (rest middle) head (end c head.reads) e h (is ∙ w)

  pub last_unfit : (k : ℕ) (s : Holding) (middle : List ℕ) (short : length middle ≤ longest_text) (e : SlotRefusal) (a : Answer) → k + 1 ≡ t → Taken o k text s middle
      → Last-refused o s middle short (line + k) e → a ≡ at_card e (line + k) → Ungathered o t line text a
  last_unfit k s middle short e a last before (more c head some h) is =
      let at : k ≡ t - 1 = omega arith in
      more_text s middle (subst (λ n. Taken o n text s middle) at before) c (rest middle) head some (is ∙ h)
  last_unfit k s middle short e a last before (alone r end) is = unfit k s middle e a (omega arith) (λ c q w. end c q) before r is

  -- the same in the terms of the code: what is handed to the slot is one line, or all that is left
  module _ (k at : ℕ) (s : Holding) (middle given : List ℕ) (here : at ≡ k) (short : length middle ≤ longest_text) (before : Taken o k text s middle) where
    pub line_refuses : (a : Answer) → given ≡ line_text middle → k + 1 < t
        → (e : SlotRefusal) × (insert_refusal o s given ≡ Some e) × (a ≡ at_card e (line + at)) → Ungathered o t line text a
    line_refuses a is below r =
        unfit k s middle r.0 a (omega arith) (λ c q w. absurd (omega arith)) before
        (line_refused o s middle short (line + k) r.0 (ap (insert_refusal o s) (sym is) ∙ r.1)) (r.2 ∙ ap (λ n. at_card r.0 (line + n)) here)

    pub line_takes : (after : Holding) (left : List ℕ) → given ≡ line_text middle → left ≡ rest middle
        → (insert_refusal o s given ≡ None) × (after ≡ insert_after o s given) → Taken o (k + 1) text after left
    line_takes after left is on r =
        subst (λ l. Taken o (k + 1) text after l) (sym on)
        (taken_more k s after middle before (line_taken o s middle short after (ap (insert_refusal o s) (sym is) ∙ r.0) (r.1 ∙ ap (insert_after o s) is)))

    pub last_refuses : (a : Answer) → given ≡ middle → k + 1 ≡ t
        → (e : SlotRefusal) × (insert_refusal o s given ≡ Some e) × (a ≡ at_card e (line + at)) → Ungathered o t line text a
    last_refuses a is last r =
        last_unfit k s middle short r.0 a last before
        (last_refused o s middle short (line + k) r.0 (ap (insert_refusal o s) (sym is) ∙ r.1)) (r.2 ∙ ap (λ n. at_card r.0 (line + n)) here)

    pub last_takes : (after : Holding) → given ≡ middle → k + 1 ≡ t
        → (insert_refusal o s given ≡ None) × (after ≡ insert_after o s given) → Taken o t text after []
    last_takes after is last r =
        let l = last_taken o s middle short after (ap (insert_refusal o s) (sym is) ∙ r.0) (r.1 ∙ ap (insert_after o s) is) in
        subst (λ n. Taken o n text after []) last (subst (λ x. Taken o (k + 1) text after x) l.1 (taken_more k s after middle before l.0))

-- a slot that took a card has a heading
pub taken-first : (o : Operations) (text : List ℕ) (k : ℕ) (s : Holding) (rest : List ℕ) → 0 < k → Taken o k text s rest → is_some s.first ≡ true
taken-first o text zero s rest h t = absurd (omega arith)
taken-first o text (suc k) s rest h t = ap (λ x. is_some x.first) t.6
