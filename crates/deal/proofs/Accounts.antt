-- The deal after any calls stands for its history: that is the law of accounts. Assumes nothing.
use Rattle.std.proofs.Common.{◌≡◌, ℕ, zero, suc, ◌+◌, ◌<◌, ◌≤◌, Bool, true, false, cond, not, ◌&&◌, ◌||◌, eqb, ◌⊎◌, List, [], ◌∷◌, length, get_or, set, replicate, sym, refl, ap, ◌∙◌, inl, inr, arith, length-set}
use mathlib.Core.Path.{fun_ext}
use Rattle.std.proofs.lemmas.Bool.{cases_eq, eq-eqb, ne_eqb, leb-false, and_parts, not-false, false≢true}
use Rattle.sharing.specs.Scheme.{Plan}
use Rattle.lines.specs.declared.mark.DealMark.{DealMark}
use Rattle.deal.specs.declared.state.Blank.{Blank}
use Rattle.deal.specs.declared.state.State.{State}
use Rattle.deal.specs.declared.state.CardState.{CardState}
use Rattle.deal.specs.declared.state.CardState.TheVariants.{Waiting, Out, Written}
use Rattle.deal.specs.Sharings.{Scheme}
use Rattle.deal.specs.Calls.{Call, Answer, is_out, is_written, standing, held, same_mark, take_rules, blank_rule, write_rules, answered, tally, answer, after, settled, moved, fresh}
use Rattle.deal.specs.Calls.Call.{Take, Write, Spoil, Count}
use Rattle.deal.specs.Calls.Answer.{Given, Data, Back, Counts}
use Rattle.deal.specs.History.{Event, gave_blank, was_written, was_spoiled, spent, granted, written, spoiled, out, done, state, history, told, Accounts}
use Rattle.deal.proofs.Tables.{by-table}
use Rattle.deal.proofs.Tallies.{tally_same, tally_more, tally_none}
use Rattle.deal.proofs.Cards.{out_not_written, put_test}

pub record Stands (d₀ d : State) (h : List Event) : Type 0 where
  pub mark_is : d.mark ≡ d₀.mark
  pub t_is : d.t ≡ d₀.t
  pub n_is : d.n ≡ d₀.n
  pub len_is : d.len ≡ d₀.len
  pub long : length d.cards ≡ 8
  pub out_is : (j : ℕ) → is_out (standing d j) ≡ out h j
  pub done_is : (j : ℕ) → is_written (standing d j) ≡ done h j
  pub granted_is : d.granted ≡ granted h
  pub spoiled_is : d.spoiled ≡ spoiled h
  pub written_is : tally (done h) d₀.n ≡ written h
  pub balance : granted h ≡ tally (out h) d₀.n + written h + spoiled h
  pub below : (j : ℕ) → out h j ≡ true → j < d₀.n
  pub most : granted h ≤ 200

-- an event that neither gave nor spent a blank
pub idle : (d₀ d : State) (h : List Event) (e : Event)
    → gave_blank e ≡ false → was_written e ≡ false → was_spoiled e ≡ false → spent e ≡ false
    → Stands d₀ d h → Stands d₀ d (e ∷ h)
idle d₀ d h e not-gave not-wrote not-spoilt not-spent s = record {
  mark_is = s.mark_is;
  t_is = s.t_is;
  n_is = s.n_is;
  len_is = s.len_is;
  long = s.long;
  out_is = λ j. s.out_is j ∙ sym (out_same j);
  done_is = λ j. s.done_is j ∙ sym (done_same j);
  granted_is = s.granted_is ∙ sym granted_same;
  spoiled_is = s.spoiled_is ∙ sym spoiled_same;
  written_is = tally_same (done (e ∷ h)) (done h) d₀.n (λ j _. done_same j) ∙ s.written_is ∙ sym written_same;
  balance =
      let o : tally (out (e ∷ h)) d₀.n ≡ tally (out h) d₀.n = tally_same (out (e ∷ h)) (out h) d₀.n (λ j _. out_same j) in
      omega (arith, s.balance, granted_same, written_same, spoiled_same);
  below = λ j y. s.below j (sym (out_same j) ∙ y);
  most = omega (arith, granted_same, s.most);
}
  where
    out_same : (j : ℕ) → out (e ∷ h) j ≡ out h j
    out_same j = rw (not-gave, not-spent) refl

    done_same : (j : ℕ) → done (e ∷ h) j ≡ done h j
    done_same j = rw not-wrote refl

    granted_same : granted (e ∷ h) ≡ granted h
    granted_same = rw not-gave (omega arith)

    written_same : written (e ∷ h) ≡ written h
    written_same = rw not-wrote (omega arith)

    spoiled_same : spoiled (e ∷ h) ≡ spoiled h
    spoiled_same = rw not-spoilt (omega arith)

module _ (d₀ d : State) (h : List Event) (small : d₀.n ≤ 8) (s : Stands d₀ d h) (j : ℕ) where
  tested : (f : CardState → Bool) (to : CardState) (i : ℕ) → j < d₀.n
      → f (get_or (set d.cards j to) i Waiting) ≡ cond (eqb j i) (f to) (f (standing d i))
  tested f to i lt = put_test f d.cards d.n j to (omega (arith, s.long)) i

  -- a granted Take
  taken : (x : Blank) → j < d₀.n → out h j ≡ false → done h j ≡ false → d.granted < 200
      → Stands d₀ (moved d j Out 1 0) (record { call = Take j; result = Given x } ∷ h)
  taken x lt not-out not_done few = record {
    mark_is = s.mark_is;
    t_is = s.t_is;
    n_is = s.n_is;
    len_is = s.len_is;
    long = length-set d.cards j Out ∙ s.long;
    out_is = λ i. tested is_out Out i lt ∙ ap (λ b. cond (eqb j i) true b) (s.out_is i);
    done_is = λ i. tested is_written Out i lt ∙ ap (λ b. cond (eqb j i) false b) (s.done_is i) ∙ stays i (cases_eq j i);
    granted_is = omega (arith, s.granted_is);
    spoiled_is = omega (arith, s.spoiled_is);
    written_is = omega (arith, s.written_is);
    balance =
        let more : tally (λ i. cond (eqb j i) true (out h i)) d₀.n ≡ tally (out h) d₀.n + 1 =
        tally_more (out h) (λ i. cond (eqb j i) true (out h i)) d₀.n j lt not-out (rw (eq-eqb j j refl) refl)
        (λ i ne. rw (ne_eqb j i (λ e. ne (sym e))) refl) in
        omega (arith, s.balance);
    below = λ i. bound i (cases_eq j i);
    most = omega (arith, s.granted_is);
  }
    where
      stays : (i : ℕ) → (j ≡ i) ⊎ (j ≡ i → ⊥) → cond (eqb j i) false (done h i) ≡ done h i
      stays i (inl e) = rw (eq-eqb j i e) (sym not_done ∙ ap (done h) e)
      stays i (inr ne) = rw (ne_eqb j i ne) refl

      bound : (i : ℕ) → (j ≡ i) ⊎ (j ≡ i → ⊥) → cond (eqb j i) true (out h i) ≡ true → i < d₀.n
      bound i (inl e) y = omega arith
      bound i (inr ne) y = s.below i (rw (ne_eqb j i ne) at y)

  -- the blank of a card that is out is spent: it is written, or else spoiled
  left : (e : Event) (to : CardState) (w : Bool) → out h j ≡ true → is_out to ≡ false → is_written to ≡ w
      → ((i : ℕ) → out (e ∷ h) i ≡ cond (eqb j i) false (out h i))
      → ((i : ℕ) → done (e ∷ h) i ≡ ((w && eqb j i) || done h i))
      → granted (e ∷ h) ≡ granted h + 0 → written (e ∷ h) ≡ written h + cond w 1 0 → spoiled (e ∷ h) ≡ spoiled h + cond w 0 1
      → Stands d₀ (moved d j to 0 (cond w 0 1)) (e ∷ h)
  left e to w was-out to_out to-written outs dones grants writes spoils = record {
    mark_is = s.mark_is;
    t_is = s.t_is;
    n_is = s.n_is;
    len_is = s.len_is;
    long = length-set d.cards j to ∙ s.long;
    out_is = λ i.
        tested is_out to i lt ∙ ap (λ b. cond (eqb j i) b (is_out (standing d i))) to_out
        ∙ ap (λ b. cond (eqb j i) false b) (s.out_is i) ∙ sym (outs i);
    done_is = λ i.
        tested is_written to i lt ∙ ap (λ b. cond (eqb j i) b (is_written (standing d i))) to-written
        ∙ ap (λ b. cond (eqb j i) w b) (s.done_is i) ∙ joined i (cases_eq j i) w ∙ sym (dones i);
    granted_is = omega (arith, s.granted_is);
    spoiled_is = rw spoils (ap (λ k. k + cond w 0 1) s.spoiled_is);
    written_is = tally_same (done (e ∷ h)) (λ i. (w && eqb j i) || done h i) d₀.n (λ i _. dones i) ∙ writing w ∙ ap (λ k. k + cond w 1 0) s.written_is ∙ sym writes;
    balance =
        let less : tally (out h) d₀.n ≡ tally (out (e ∷ h)) d₀.n + 1 =
        tally_more (out (e ∷ h)) (out h) d₀.n j lt (outs j ∙ rw (eq-eqb j j refl) refl) was-out
        (λ i ne. sym (outs i ∙ rw (ne_eqb j i (λ q. ne (sym q))) refl)) in
        rw (grants, writes, spoils) (balanced w (tally (out h) d₀.n) (tally (out (e ∷ h)) d₀.n) less s.balance);
    below = λ i y. bound i (cases_eq j i) (sym (outs i) ∙ y);
    most = omega (arith, s.most, grants);
  }
    where
      lt : j < d₀.n
      lt = s.below j was-out

      not_done : done h j ≡ false
      not_done = sym (s.done_is j) ∙ out_not_written (standing d j) (s.out_is j ∙ was-out)

      joined : (i : ℕ) → (j ≡ i) ⊎ (j ≡ i → ⊥) → (w : Bool) → cond (eqb j i) w (done h i) ≡ ((w && eqb j i) || done h i)
      joined i (inl q) true = rw (eq-eqb j i q) refl
      joined i (inl q) false = rw (eq-eqb j i q) (sym not_done ∙ ap (done h) q)
      joined i (inr ne) true = rw (ne_eqb j i ne) refl
      joined i (inr ne) false = rw (ne_eqb j i ne) refl

      writing : (w : Bool) → tally (λ i. (w && eqb j i) || done h i) d₀.n ≡ tally (done h) d₀.n + cond w 1 0
      writing true =
          tally_more (done h) (λ i. eqb j i || done h i) d₀.n j lt not_done (rw (eq-eqb j j refl) refl)
          (λ i ne. rw (ne_eqb j i (λ q. ne (sym q))) refl)
      writing false = omega arith

      balanced : (w : Bool) (a b : ℕ) → a ≡ b + 1 → granted h ≡ a + written h + spoiled h
          → granted h + 0 ≡ b + (written h + cond w 1 0) + (spoiled h + cond w 0 1)
      balanced true a b q r = omega arith
      balanced false a b q r = omega arith

      bound : (i : ℕ) → (j ≡ i) ⊎ (j ≡ i → ⊥) → cond (eqb j i) false (out h i) ≡ true → i < d₀.n
      bound i (inl q) y = omega (arith, lt)
      bound i (inr ne) y = s.below i (rw (ne_eqb j i ne) at y)

-- the blank's card is out, once the line of 23 is passed
pub passed : (d : State) (x : Blank) → not (same_mark x.mark d.mark && is_out (standing d x.card)) ≡ false
    → is_out (standing d x.card) ≡ true
passed d x e = (and_parts (same_mark x.mark d.mark) (is_out (standing d x.card)) (not-false (same_mark x.mark d.mark && is_out (standing d x.card)) e)).1

-- the deal after a call about card j, with that call in its history
abbrev Next : (d₀ d : State) → List Event → (j : ℕ) → Call → Answer → Type 0
Next d₀ d h j c a = Stands d₀ (settled d j a) (record { call = c; result = a } ∷ h)

module _ (S : Scheme) (d₀ d : State) (h : List Event) (small : d₀.n ≤ 8) (s : Stands d₀ d h) where
  next_take : (j : ℕ) → Next d₀ d h j (Take j) (answer S d (Take j))
  next_take j =
      by-table (Next d₀ d h j (Take j)) (take_rules (held d) j) (Given (record { card = j; mark = d.mark })) (
        (λ _. idle d₀ d h _ refl refl refl refl s),
        (λ low. (
          (λ _. idle d₀ d h _ refl refl refl refl s),
          (λ not-out. (
            (λ _. idle d₀ d h _ refl refl refl refl s),
            (λ not_done. (
              (λ _. idle d₀ d h _ refl refl refl refl s),
              (λ few. taken d₀ d h small s j (record { card = j; mark = d.mark }) (omega (arith, leb-false d.n j low, s.n_is)) (sym (s.out_is j) ∙ not-out) (sym (s.done_is j) ∙ not_done) (leb-false 200 d.granted few)),
            )),
          )),
        )),
      )

  spoilt : (x : Blank) (e : Event) → is_out (standing d x.card) ≡ true
      → ((i : ℕ) → out (e ∷ h) i ≡ cond (eqb x.card i) false (out h i))
      → ((i : ℕ) → done (e ∷ h) i ≡ done h i)
      → granted (e ∷ h) ≡ granted h + 0 → written (e ∷ h) ≡ written h + 0 → spoiled (e ∷ h) ≡ spoiled h + 1
      → Stands d₀ (moved d x.card Waiting 0 1) (e ∷ h)
  spoilt x e is outs dones = left d₀ d h small s x.card e Waiting false (sym (s.out_is x.card) ∙ is) refl refl outs dones

  next_write : (x : Blank) (p : Plan) (t : List ℕ) (room : ℕ)
      → Next d₀ d h x.card (Write x p t room) (answer S d (Write x p t room))
  next_write x p t room =
      by-table (Next d₀ d h x.card (Write x p t room)) (write_rules S (held d) x p t room) (Data ((S p d.len).card t x.card)) (
        (λ _. idle d₀ d h _ refl refl refl refl s),
        (λ here. (
          (λ _. spoilt x _ (passed d x here) (λ _. refl) (λ _. refl) refl refl refl),
          (λ _. (
            (λ _. spoilt x _ (passed d x here) (λ _. refl) (λ _. refl) refl refl refl),
            (λ _. left d₀ d h small s x.card _ Written true (sym (s.out_is x.card) ∙ passed d x here) refl refl (λ _. refl) (λ _. refl) refl refl refl),
          )),
        )),
      )

  next_spoil : (x : Blank) → Next d₀ d h x.card (Spoil x) (answer S d (Spoil x))
  next_spoil x =
      by-table (Next d₀ d h x.card (Spoil x)) (blank_rule (held d) x ∷ []) Back
      ((λ _. idle d₀ d h _ refl refl refl refl s), (λ here. spoilt x _ (passed d x here) (λ _. refl) (λ _. refl) refl refl refl))

  next : (c : Call) → Stands d₀ (after S d c) (record { call = c; result = answer S d c } ∷ h)
  next (Take j) = next_take j
  next (Write x p t room) = next_write x p t room
  next (Spoil x) = next_spoil x
  next Count = idle d₀ d h _ refl refl refl refl s

-- the deal after any calls stands for its history, if it stood for none at first
pub stands : (S : Scheme) (d : State) → d.n ≤ 8 → Stands d d [] → (calls : List Call) → Stands d (state S d calls) (history S d calls)
stands S d small at_first [] = at_first
stands S d small at_first (c ∷ earlier) =
    next S d (state S d earlier) (history S d earlier) small (stands S d small at_first earlier) c

pub all_wait : (k j : ℕ) → get_or (replicate k Waiting) j Waiting ≡ Waiting
all_wait zero j = refl
all_wait (suc k) zero = refl
all_wait (suc k) (suc j) = all_wait k j

-- a new deal has no history
pub stands-fresh : (mark : DealMark) (t n L : ℕ) → Stands (fresh mark t n L) (fresh mark t n L) []
stands-fresh mark t n L = record {
  mark_is = refl;
  t_is = refl;
  n_is = refl;
  len_is = refl;
  long = refl;
  out_is = λ j. ap is_out (all_wait 8 j);
  done_is = λ j. ap is_written (all_wait 8 j);
  granted_is = refl;
  spoiled_is = refl;
  written_is = tally_none n;
  balance = ap (λ k. k + 0 + 0) (sym (tally_none n));
  below = λ j e. absurd (false≢true e);
  most = omega arith;
}

module _ (S : Scheme) (d₀ d : State) (h : List Event) (s : Stands d₀ d h) where
  out_test : (λ j. is_out (standing d j)) ≡ out h
  out_test = fun_ext s.out_is

  done_test : (λ j. is_written (standing d j)) ≡ done h
  done_test = fun_ext s.done_is

  told_so : held d ≡ told d₀ h
  told_so = λ i. record {
    mark = s.mark_is i;
    t = s.t_is i;
    n = s.n_is i;
    len = s.len_is i;
    out = out_test i;
    written = done_test i;
    granted = s.granted_is i;
  }

  counted : answer S d Count ≡ Counts (tally (out h) d₀.n) (written h) (spoiled h)
  counted =
      (λ i. Counts (tally (out_test i) (s.n_is i)) (tally (done_test i) (s.n_is i)) (s.spoiled_is i))
      ∙ ap (λ w. Counts (tally (out h) d₀.n) w (spoiled h)) s.written_is

  take-told : (j : ℕ) → answer S d (Take j) ≡ answered (take_rules (told d₀ h) j) (Given (record { card = j; mark = d₀.mark }))
  take-told j = λ i. answered (take_rules (told_so i) j) (Given (record { card = j; mark = s.mark_is i }))

  write_told : (x : Blank) (p : Plan) (t : List ℕ) (room : ℕ)
      → answer S d (Write x p t room) ≡ answered (write_rules S (told d₀ h) x p t room) (Data ((S p d₀.len).card t x.card))
  write_told x p t room = λ i. answered (write_rules S (told_so i) x p t room) (Data ((S p (s.len_is i)).card t x.card))

  spoil_told : (x : Blank) → answer S d (Spoil x) ≡ answered (blank_rule (told d₀ h) x ∷ []) Back
  spoil_told x = λ i. answered (blank_rule (told_so i) x ∷ []) Back

-- the law of accounts
pub accounts : (S : Scheme) (mark : DealMark) (t n L : ℕ) → n ≤ 8 → Accounts S (fresh mark t n L)
accounts S mark t n L small = record {
  balance = λ calls. (at calls).balance;
  most = λ calls. (at calls).most;
  counts = λ calls. counted S d (state S d calls) (history S d calls) (at calls);
  takes = λ calls. take-told S d (state S d calls) (history S d calls) (at calls);
  writes = λ calls. write_told S d (state S d calls) (history S d calls) (at calls);
  spoils = λ calls. spoil_told S d (state S d calls) (history S d calls) (at calls);
}
  where
    d : State
    d = fresh mark t n L

    at : (calls : List Call) → Stands d (state S d calls) (history S d calls)
    at = stands S d small (stands-fresh mark t n L)
