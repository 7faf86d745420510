-- The law of the onlooker over any sharing: it uses a scheme only through the cards of a store, and through this, that any
-- k cards fit every key by exactly one set of dummy keys. Assumes nothing.
use Rattle.std.proofs.Common.{◌≡◌, ℕ, ◌≤◌, Bool, true, false, cond, not, ◌&&◌, ◌||◌, eqb, ◌⊎◌, List, [], ◌∷◌, map, Some, None, Option, sym, refl, ap, ◌∙◌, subst, inl, inr}
use Rattle.std.proofs.lemmas.Bool.{or_cases, and_parts, eqb-true, false≢true}
use Rattle.field.specs.Refusals.{Rule, foremost}
use Rattle.sharing.specs.Groups.{Group, Holds}
use Rattle.sharing.specs.Scheme.{Plan}
use Rattle.deal.specs.declared.state.Blank.{Blank}
use Rattle.deal.specs.declared.state.State.{State}
use Rattle.deal.specs.declared.state.CardState.TheVariants.{Waiting}
use Rattle.deal.specs.Sharings.{Scheme}
use Rattle.deal.specs.Calls.{Call, Answer, held, write_rules, blank_rule, answered, answer, after, settled, moved}
use Rattle.deal.specs.Calls.Call.{Take, Write, Spoil, Count}
use Rattle.deal.specs.Calls.Answer.{Refused, Given, Data, Back, Counts}
use Rattle.deal.specs.History.{is_granted, is_of, was_written, done, state, history}
use Rattle.deal.specs.Onlooker.{among, shown, seen, handed, looked, Hidden}
use Rattle.deal.proofs.Groups.{holds_among, among_holds, enlarged}

cons_head : {A : Type 0} {x y : A} {xs ys : List A} → x ∷ xs ≡ y ∷ ys → x ≡ y
cons_head e = cc

cons_tail : {A : Type 0} {x y : A} {xs ys : List A} → x ∷ xs ≡ y ∷ ys → xs ≡ ys
cons_tail e = cc

-- the deal's key length stays
settled_len : (d : State) (j : ℕ) (a : Answer) → (settled d j a).len ≡ d.len
settled_len d j (Refused number carries) = by (eqb number 0x24 || eqb number 0x25)
  where
    by : (b : Bool) → (cond b (moved d j Waiting 0 1) d).len ≡ d.len
    by true = refl
    by false = refl
settled_len d j (Given x) = refl
settled_len d j (Data numbers) = refl
settled_len d j Back = refl
settled_len d j (Counts a b c) = refl

after_len : (S : Scheme) (d : State) (c : Call) → (after S d c).len ≡ d.len
after_len S d (Take j) = settled_len d j (answer S d (Take j))
after_len S d (Write x p s room) = settled_len d x.card (answer S d (Write x p s room))
after_len S d (Spoil x) = settled_len d x.card (answer S d (Spoil x))
after_len S d Count = refl

state_len : (S : Scheme) (d : State) (calls : List Call) → (state S d calls).len ≡ d.len
state_len S d [] = refl
state_len S d (c ∷ earlier) = after_len S (state S d earlier) c ∙ state_len S d earlier

-- what a deal holds after a Write does not depend on the card's data
settled_alike : (d : State) (j : ℕ) (rules : List Rule) (a b : List ℕ)
    → settled d j (answered rules (Data a)) ≡ settled d j (answered rules (Data b))
settled_alike d j rules a b = by (foremost rules)
  where
    by : (o : Option (ℕ × ℕ))
        → settled d j (elim o [ Some r ↦ Refused r.0 r.1 | None ↦ Data a ])
        ≡ settled d j (elim o [ Some r ↦ Refused r.0 r.1 | None ↦ Data b ])
    by (Some r) = refl
    by None = refl

-- nor does what is shown of it, if the data are alike wherever they are shown
shown_alike : (has : Bool) (rules : List Rule) (a b : List ℕ) → (has ≡ true → a ≡ b)
    → shown has (answered rules (Data a)) ≡ shown has (answered rules (Data b))
shown_alike has rules a b same = by (foremost rules) has same
  where
    by : (o : Option (ℕ × ℕ)) (has : Bool) → (has ≡ true → a ≡ b)
        → shown has (elim o [ Some r ↦ Refused r.0 r.1 | None ↦ Data a ])
        ≡ shown has (elim o [ Some r ↦ Refused r.0 r.1 | None ↦ Data b ])
    by (Some r) has same = refl
    by None true same = ap (λ x. Data x) (same refl)
    by None false same = refl

-- a granted Write shows the data
shown_data : (rules : List Rule) (a b : List ℕ) → is_granted (answered rules (Data a)) ≡ true
    → shown true (answered rules (Data a)) ≡ shown true (answered rules (Data b)) → a ≡ b
shown_data rules a b = by (foremost rules)
  where
    by : (o : Option (ℕ × ℕ)) → is_granted (elim o [ Some r ↦ Refused r.0 r.1 | None ↦ Data a ]) ≡ true
        → shown true (elim o [ Some r ↦ Refused r.0 r.1 | None ↦ Data a ])
        ≡ shown true (elim o [ Some r ↦ Refused r.0 r.1 | None ↦ Data b ])
        → a ≡ b
    by (Some r) g e = absurd (false≢true g)
    by None g e = cc

-- two stores that both fit, under one plan and the same calls
module _ (S : Scheme) (d : State) (p : Plan) (s s' : List ℕ) (fits : (S p d.len).unfit s ≡ (S p d.len).unfit s') where
  rules_alike : (e : State) → e.len ≡ d.len → (x : Blank) (room : ℕ)
      → write_rules S (held e) x p s room ≡ write_rules S (held e) x p s' room
  rules_alike e len x room =
      let u : (S p e.len).unfit s ≡ (S p e.len).unfit s' = subst (λ L. (S p L).unfit s ≡ (S p L).unfit s') (sym len) fits in
      λ i. blank_rule (held e) x ∷ (0x24, not (eqb p.t e.t && eqb p.n e.n) || u i, 0) ∷ (0x25, not (eqb room (S p e.len).size), 0) ∷ []

  after_alike : (e : State) → e.len ≡ d.len → (c : Call) → after S e (handed p s c) ≡ after S e (handed p s' c)
  after_alike e len (Take j) = refl
  after_alike e len (Write x q r room) =
      ap (λ rules. settled e x.card (answered rules (Data ((S p e.len).card s x.card)))) (rules_alike e len x room)
      ∙ settled_alike e x.card (write_rules S (held e) x p s' room) ((S p e.len).card s x.card) ((S p e.len).card s' x.card)
  after_alike e len (Spoil x) = refl
  after_alike e len Count = refl

  state_alike : (calls : List Call) → state S d (map (handed p s) calls) ≡ state S d (map (handed p s') calls)
  state_alike [] = refl
  state_alike (c ∷ earlier) =
      after_alike (state S d (map (handed p s) earlier)) (state_len S d (map (handed p s) earlier)) c
      ∙ ap (λ e. after S e (handed p s' c)) (state_alike earlier)

  seen_alike : (g : List ℕ) → ((j : ℕ) → Holds g j → (S p d.len).card s j ≡ (S p d.len).card s' j)
      → (e : State) → e.len ≡ d.len → (c : Call)
      → seen g (handed p s c) (answer S e (handed p s c)) ≡ seen g (handed p s' c) (answer S e (handed p s' c))
  seen_alike g same e len (Take j) = refl
  seen_alike g same e len (Write x q r room) =
      ap (λ rules. shown (among g x.card) (answered rules (Data ((S p e.len).card s x.card)))) (rules_alike e len x room)
      ∙ shown_alike (among g x.card) (write_rules S (held e) x p s' room) ((S p e.len).card s x.card) ((S p e.len).card s' x.card)
      (λ has. subst (λ L. (S p L).card s x.card ≡ (S p L).card s' x.card) (sym len) (same x.card (among_holds g x.card has)))
  seen_alike g same e len (Spoil x) = refl
  seen_alike g same e len Count = refl

  -- the same cards give the same view
  looked_alike : (g : List ℕ) → ((j : ℕ) → Holds g j → (S p d.len).card s j ≡ (S p d.len).card s' j)
      → (calls : List Call) → looked S d g p calls s ≡ looked S d g p calls s'
  looked_alike g same [] = refl
  looked_alike g same (c ∷ earlier) =
      let e = state S d (map (handed p s) earlier) in
      let first = seen_alike g same e (state_len S d (map (handed p s) earlier)) c
      ∙ ap (λ e'. seen g (handed p s' c) (answer S e' (handed p s' c))) (state_alike earlier) in
      let rest = looked_alike g same earlier in
      λ i. first i ∷ rest i

  -- the same view gives the same card, once it is written
  seen-card : (g : List ℕ) (j : ℕ) → among g j ≡ true → (e : State) → e.len ≡ d.len → (c : Call)
      → (was_written (record { call = handed p s c; result = answer S e (handed p s c) }) && is_of (handed p s c) j) ≡ true
      → seen g (handed p s c) (answer S e (handed p s c)) ≡ seen g (handed p s' c) (answer S e (handed p s' c))
      → (S p d.len).card s j ≡ (S p d.len).card s' j
  seen-card g j has e len (Take i) w q = absurd (false≢true w)
  seen-card g j has e len (Write x r t room) w q =
      let parts = and_parts (is_granted (answer S e (Write x p s room))) (eqb x.card j) w in
      let is : x.card ≡ j = eqb-true x.card j parts.1 in
      let a = (S p e.len).card s x.card in
      let b = (S p e.len).card s' x.card in
      let rules = write_rules S (held e) x p s room in
      let rules' = write_rules S (held e) x p s' room in
      let both : shown true (answered rules (Data a)) ≡ shown true (answered rules' (Data b)) =
      subst (λ h. shown h (answered rules (Data a)) ≡ shown h (answered rules' (Data b))) (ap (among g) is ∙ has) q in
      let same : a ≡ b =
      shown_data rules a b parts.0 (both ∙ ap (λ k. shown true (answered k (Data b))) (sym (rules_alike e len x room))) in
      subst (λ i. (S p d.len).card s i ≡ (S p d.len).card s' i) is
      (subst (λ L. (S p L).card s x.card ≡ (S p L).card s' x.card) len same)
  seen-card g j has e len (Spoil x) w q = absurd (false≢true w)
  seen-card g j has e len Count w q = absurd (false≢true w)

  looked-card : (g : List ℕ) (j : ℕ) → among g j ≡ true → (calls : List Call)
      → done (history S d (map (handed p s) calls)) j ≡ true
      → looked S d g p calls s ≡ looked S d g p calls s'
      → (S p d.len).card s j ≡ (S p d.len).card s' j
  looked-card g j has [] is q = absurd (false≢true is)
  looked-card g j has (c ∷ earlier) is q =
      go (or_cases (was_written (record { call = handed p s c; result = answer S e (handed p s c) }) && is_of (handed p s c) j) (done (history S d (map (handed p s) earlier)) j) is)
      (λ is' q'. looked-card g j has earlier is' q')
    where
      e : State
      e = state S d (map (handed p s) earlier)

      go : ((was_written (record { call = handed p s c; result = answer S e (handed p s c) }) && is_of (handed p s c) j) ≡ true)
          ⊎ (done (history S d (map (handed p s) earlier)) j ≡ true)
          → (done (history S d (map (handed p s) earlier)) j ≡ true → looked S d g p earlier s ≡ looked S d g p earlier s'
          → (S p d.len).card s j ≡ (S p d.len).card s' j)
          → (S p d.len).card s j ≡ (S p d.len).card s' j
      go (inl here) before =
          seen-card g j has e (state_len S d (map (handed p s) earlier)) c here
          (cons_head q ∙ ap (λ e'. seen g (handed p s' c) (answer S e' (handed p s' c))) (sym (state_alike earlier)))
      go (inr there) before = before there (cons_tail q)

-- any k cards of a store fit every key by exactly one set of dummy keys
abbrev pub Hiding : Scheme → Plan → (L n k : ℕ) → (IsKey IsDummies : List ℕ → Type 0) → (List ℕ → List ℕ → List ℕ) → Type 0
Hiding S p L n k IsKey IsDummies laid =
    (g : List ℕ) → Group n k g → (key dummies key' : List ℕ) → IsKey key → IsDummies dummies → IsKey key'
    → (found : List ℕ) × IsDummies found
    × ((j : ℕ) → Holds g j → (S p L).card (laid key dummies) j ≡ (S p L).card (laid key' found) j)
    × ((other : List ℕ) → IsDummies other
    → ((j : ℕ) → Holds g j → (S p L).card (laid key dummies) j ≡ (S p L).card (laid key' other) j) → other ≡ found)

module _ (S : Scheme) (d : State) (p : Plan) (k : ℕ) (IsKey IsDummies : List ℕ → Type 0) (laid : List ℕ → List ℕ → List ℕ)
    (room : k ≤ d.n)
    (fit : (key dummies : List ℕ) → IsKey key → IsDummies dummies → (S p d.len).unfit (laid key dummies) ≡ false)
    (hiding : Hiding S p d.len d.n k IsKey IsDummies laid)
  where
    -- the law of the onlooker
    pub hidden : (key dummies : List ℕ) → IsKey key → IsDummies dummies → Hidden S d p k IsKey IsDummies laid key dummies
    hidden key dummies is_key is-dummies = record {
      some = λ calls g group small all_done key' is-key'.
          let big = enlarged d.n k g group small room in
          let found = hiding big.0 big.1 key dummies key' is_key is-dummies is-key' in (
            found.0,
            found.1,
            sym (looked_alike S d p (laid key dummies) (laid key' found.0) (fits key' found.0 is-key' found.1) g
                (λ j h. found.2 j (big.2 j h)) calls),
          );
      only = λ calls g group full all_done key' is-key' one other is_one is-other q q'.
          let group' : Group d.n k g = (full, group.1, group.2) in
          let found = hiding g group' key dummies key' is_key is-dummies is-key' in
          found.3 one is_one (cards calls g all_done key' one is-key' is_one (sym q))
          ∙ sym (found.3 other is-other (cards calls g all_done key' other is-key' is-other (sym q')));
    }
      where
        fits : (key' other : List ℕ) → IsKey key' → IsDummies other
            → (S p d.len).unfit (laid key dummies) ≡ (S p d.len).unfit (laid key' other)
        fits key' other is-key' is-other = fit key dummies is_key is-dummies ∙ sym (fit key' other is-key' is-other)

        cards : (calls : List Call) (g : List ℕ)
            → ((j : ℕ) → Holds g j → done (history S d (map (handed p (laid key dummies)) calls)) j ≡ true)
            → (key' other : List ℕ) → IsKey key' → IsDummies other
            → looked S d g p calls (laid key dummies) ≡ looked S d g p calls (laid key' other)
            → (j : ℕ) → Holds g j → (S p d.len).card (laid key dummies) j ≡ (S p d.len).card (laid key' other) j
        cards calls g all_done key' other is-key' is-other q j h =
            looked-card S d p (laid key dummies) (laid key' other) (fits key' other is-key' is-other) g j
            (holds_among g j h.0 h.1 h.2) calls (all_done j h) q
