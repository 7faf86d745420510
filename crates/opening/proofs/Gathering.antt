-- The group of t different cards: their numbers in ascending order. Assumes nothing.
use Rattle.std.proofs.Common.{◌≡◌, ℕ, zero, suc, ◌+◌, ◌^◌, ◌<◌, ◌≤◌, Bool, true, false, cond, eqb, ◌≢◌, List, [], ◌∷◌, length, get_or, Some, None, Option, sym, refl, ap, ◌∙◌, subst, ap₂, ⊎_elim, arith}
use Rattle.std.proofs.lemmas.Bool.{true≢false, cases_eq, cases_Bool, eqb-true, eq-eqb, ne_eqb}
use Rattle.std.specs.List.{sum_by}
use Rattle.std.proofs.lemmas.List.Sums.{sum_by-cons}
use Rattle.field.specs.Codes.{first}
use Rattle.field.specs.Inverse.{first_passes}
use Rattle.sharing.specs.Groups.{Group, Holds, bits}
use Rattle.plan_check.proofs.Ranks.{Run, run_wider, run_group}
use Rattle.opening.specs.Answers.{Different}
use Rattle.opening.specs.Tables.{stands}
use Rattle.opening.proofs.Faultless.{stands_false}

-- the numbers that pass a test, ascending: those from c on, of m numbers
abbrev pub among : (ℕ → Bool) → (c m : ℕ) → List ℕ
among test c zero = []
among test c (suc m) = cond (test c) (c ∷ among test (suc c) m) (among test (suc c) m)

-- the numbers below n that are among the cards, ascending
abbrev pub group : (n : ℕ) → List ℕ → List ℕ
group n cards = among (stands cards (length cards)) 0 n

module _ (test : ℕ → Bool) where
  -- a number that passes, and one that does not
  pub among_with : (c m : ℕ) → test c ≡ true → among test c (suc m) ≡ c ∷ among test (suc c) m
  among_with c m e = ap (λ b. cond b (c ∷ among test (suc c) m) (among test (suc c) m)) e

  pub among_without : (c m : ℕ) → test c ≡ false → among test c (suc m) ≡ among test (suc c) m
  among_without c m e = ap (λ b. cond b (c ∷ among test (suc c) m) (among test (suc c) m)) e

  pub among_run : (c m n : ℕ) → c + m ≡ n → Run c n (among test c m)
  among_run c zero n e = tt
  among_run c (suc m) n e =
      let rest = among_run (suc c) m n (omega arith) in
      ⊎_elim (λ t. subst (Run c n) (sym (among_with c m t)) (omega arith, omega arith, rest))
      (λ f. subst (Run c n) (sym (among_without c m f)) (run_wider c n (among test (suc c) m) rest))
      (cases_Bool (test c))

-- what a list holds, its first number or one of the rest
pub holds_rest : (j k : ℕ) (g : List ℕ) → Holds g j → Holds (k ∷ g) j
holds_rest j k g h = (suc h.0, omega (arith, h.1), h.2)

pub holds_none : (j : ℕ) → Holds [] j → ⊥
holds_none j h = omega (arith, h.1)

pub holds_cases : {A : Type 0} (j k : ℕ) (g : List ℕ) → (k ≡ j → A) → (Holds g j → A) → Holds (k ∷ g) j → A
holds_cases j k g first rest (zero, l, e) = first e
holds_cases j k g first rest (suc i, l, e) = rest (i, omega arith, e)

module _ (test : ℕ → Bool) where
  -- the numbers that are held pass the test
  pub among_passes : (c m j : ℕ) → Holds (among test c m) j → test j ≡ true
  among_passes c zero j h = absurd (holds_none j h)
  among_passes c (suc m) j h =
      ⊎_elim
      (λ t.
      holds_cases j c (among test (suc c) m) (λ e. ap test (sym e) ∙ t) (among_passes (suc c) m j)
      (subst (λ g. Holds g j) (among_with test c m t) h))
      (λ f. among_passes (suc c) m j (subst (λ g. Holds g j) (among_without test c m f) h))
      (cases_Bool (test c))

  -- and those within the range that pass are held
  pub among_holds : (c m j : ℕ) → c ≤ j → j < c + m → test j ≡ true → Holds (among test c m) j
  among_holds c zero j l h t = absurd (omega arith)
  among_holds c (suc m) j l h t =
      ⊎_elim
      (λ same.
      subst (λ g. Holds g j) (sym (among_with test c m (ap test same ∙ t))) (0, omega arith, same))
      (λ apart.
      let rest = among_holds (suc c) m j (omega arith) (omega arith) t in
      ⊎_elim (λ u. subst (λ g. Holds g j) (sym (among_with test c m u)) (holds_rest j c (among test (suc c) m) rest))
      (λ f. subst (λ g. Holds g j) (sym (among_without test c m f)) rest)
      (cases_Bool (test c)))
      (cases_eq c j)

-- tests that agree from c on pick the same numbers
pub among_cong : (test other : ℕ → Bool) (c m : ℕ) → ((k : ℕ) → c ≤ k → k < c + m → test k ≡ other k) → among test c m ≡ among other c m
among_cong test other c zero same = refl
among_cong test other c (suc m) same =
    let here = same c (omega arith) (omega arith) in
    let rest = among_cong test other (suc c) m (λ k l h. same k (omega arith) (omega arith)) in
    ap (λ g. cond (test c) (c ∷ g) g) rest ∙ ap (λ b. cond b (c ∷ among other (suc c) m) (among other (suc c) m)) here

-- a number that a list has
has : List ℕ → ℕ → Bool
has [] j = false
has (k ∷ cards) j = cond (eqb k j) true (has cards j)

has_first : (k : ℕ) (cards : List ℕ) (j : ℕ) → k ≡ j → has (k ∷ cards) j ≡ true
unfolding has
has_first k cards j e = ap (λ b. cond b true (has cards j)) (eq-eqb k j e)

has_next : (k : ℕ) (cards : List ℕ) (j : ℕ) → k ≢ j → has (k ∷ cards) j ≡ has cards j
unfolding has
has_next k cards j e = ap (λ b. cond b true (has cards j)) (ne_eqb k j e)

has_none : (j : ℕ) → has [] j ≡ false
unfolding has
has_none j = refl

has_holds : (cards : List ℕ) (j : ℕ) → has cards j ≡ true → Holds cards j
has_holds [] j e = absurd (true≢false (sym e ∙ has_none j))
has_holds (k ∷ cards) j e =
    ⊎_elim (λ same. (0, omega arith, same))
    (λ apart. holds_rest j k cards (has_holds cards j (sym (has_next k cards j apart) ∙ e)))
    (cases_eq k j)

holds_has : (cards : List ℕ) (j : ℕ) → Holds cards j → has cards j ≡ true
holds_has [] j h = absurd (holds_none j h)
holds_has (k ∷ cards) j h =
    ⊎_elim (has_first k cards j)
    (λ apart. has_next k cards j apart ∙ holds_cases j k cards (λ e. absurd (apart e)) (holds_has cards j) h)
    (cases_eq k j)

module _ (weight : ℕ → ℕ) where
  -- one number more, of those in the range, adds its weight to the picked ones
  among_more : (k : ℕ) (cards : List ℕ) → has cards k ≡ false → (c m : ℕ) → c ≤ k → k < c + m
      → sum_by weight (among (has (k ∷ cards)) c m) ≡ weight k + sum_by weight (among (has cards) c m)
  among_more k cards new c zero l h = absurd (omega arith)
  among_more k cards new c (suc m) l h = ⊎_elim here (later (among_more k cards new (suc c) m)) (cases_eq k c)
    where
      with-next : (j : ℕ) (g : List ℕ) → sum_by weight (j ∷ g) ≡ weight j + sum_by weight g
      with-next j g = sum_by-cons weight j g

      here : k ≡ c → sum_by weight (among (has (k ∷ cards)) c (suc m)) ≡ weight k + sum_by weight (among (has cards) c (suc m))
      here same =
          ap (sum_by weight) (among_with (has (k ∷ cards)) c m (has_first k cards c same))
          ∙ with-next c (among (has (k ∷ cards)) (suc c) m)
          ∙ ap₂ (λ (i j : ℕ). weight i + j) (sym same)
          (ap (sum_by weight)
          (among_cong (has (k ∷ cards)) (has cards) (suc c) m (λ j a b. has_next k cards j (λ e. omega arith))
          ∙ sym (among_without (has cards) c m (ap (has cards) (sym same) ∙ new))))

      later : (suc c ≤ k → k < suc c + m
          → sum_by weight (among (has (k ∷ cards)) (suc c) m) ≡ weight k + sum_by weight (among (has cards) (suc c) m))
          → (k ≡ c → ⊥)
          → sum_by weight (among (has (k ∷ cards)) c (suc m)) ≡ weight k + sum_by weight (among (has cards) c (suc m))
      later ih apart =
          let rest = ih (omega arith) (omega arith) in
          ⊎_elim
          (λ t.
          let more = has_next k cards c apart ∙ t in
          let one = ap (sum_by weight) (among_with (has (k ∷ cards)) c m more) ∙ with-next c (among (has (k ∷ cards)) (suc c) m) in
          let other = ap (sum_by weight) (among_with (has cards) c m t) ∙ with-next c (among (has cards) (suc c) m) in
          omega (arith, one, other, rest))
          (λ f.
          ap (sum_by weight) (among_without (has (k ∷ cards)) c m (has_next k cards c apart ∙ f))
          ∙ rest
          ∙ ap (λ g. weight k + sum_by weight g) (sym (among_without (has cards) c m f)))
          (cases_Bool (has cards c))

  among-nothing : (c m : ℕ) → sum_by weight (among (has []) c m) ≡ 0
  among-nothing c zero = refl
  among-nothing c (suc m) = ap (sum_by weight) (among_without (has []) c m (has_none c)) ∙ among-nothing (suc c) m

  -- different numbers below n weigh as much as the picked ones
  among-weight : (n : ℕ) (cards : List ℕ) → ((i : ℕ) → i < length cards → get_or cards i 0 < n) → Different cards
      → sum_by weight (among (has cards) 0 n) ≡ sum_by weight cards
  among-weight n [] below different = among-nothing 0 n
  among-weight n (k ∷ cards) below different =
      among_more k cards new 0 n (omega arith) (omega (arith, below 0 (omega arith)))
      ∙ ap (λ s. weight k + s)
      (among-weight n cards (λ i l. below (suc i) (omega arith))
      (λ i h l m. different (suc i) (suc h) (omega arith) (omega arith)))
      ∙ sym (sum_by-cons weight k cards)
    where
      new : has cards k ≡ false
      new =
          ⊎_elim
          (λ t.
          let held = has_holds cards k t in
          absurd (different 0 (suc held.0) (omega arith) (omega (arith, held.1)) (sym held.2)))
          (λ f. f)
          (cases_Bool (has cards k))

length_weight : (g : List ℕ) → length g ≡ sum_by (λ _. 1) g
length_weight [] = refl
length_weight (j ∷ g) = omega (arith, length_weight g, sum_by-cons (λ (_ : ℕ). 1) j g)

bits_weight : (g : List ℕ) → bits g ≡ sum_by (λ j. 2 ^ j) g
bits_weight [] = refl
bits_weight (j ∷ g) = ap (λ s. 2 ^ j + s) (bits_weight g) ∙ sym (sum_by-cons (λ j. 2 ^ j) j g)

-- a number stands among the cards exactly if they hold it
pub stands_holds : (cards : List ℕ) (j : ℕ) → stands cards (length cards) j ≡ true → Holds cards j
stands_holds cards j e = go (first (λ k. eqb (get_or cards k 0) j) (length cards)) refl e
  where
    go : (f : Option ℕ) → first (λ k. eqb (get_or cards k 0) j) (length cards) ≡ f → elim f [ Some i ↦ true | None ↦ false ] ≡ true
        → Holds cards j
    go None f s = absurd (true≢false (sym s))
    go (Some i) f s =
        let found = first_passes (λ k. eqb (get_or cards k 0) j) (length cards) i f in
        (i, found.0, eqb-true (get_or cards i 0) j found.1)

pub holds_stands : (cards : List ℕ) (j : ℕ) → Holds cards j → stands cards (length cards) j ≡ true
holds_stands cards j h =
    ⊎_elim (λ t. t) (λ f. absurd (stands_not f)) (cases_Bool (stands cards (length cards) j))
  where
    stands_not : stands cards (length cards) j ≡ false → ⊥
    stands_not f = stands_false cards (length cards) j f h.0 h.1 h.2

stands_has : (cards : List ℕ) (j : ℕ) → stands cards (length cards) j ≡ has cards j
stands_has cards j =
    ⊎_elim (λ t. t ∙ sym (holds_has cards j (stands_holds cards j t)))
    (λ f.
    ⊎_elim (λ t. absurd (true≢false (sym (holds_stands cards j (has_holds cards j t)) ∙ f))) (λ g. f ∙ sym g)
    (cases_Bool (has cards j)))
    (cases_Bool (stands cards (length cards) j))

module _ (n : ℕ) (cards : List ℕ) (below : (i : ℕ) → i < length cards → get_or cards i 0 < n) (different : Different cards) where
  picked : group n cards ≡ among (has cards) 0 n
  picked = among_cong (stands cards (length cards)) (has cards) 0 n (λ k l h. stands_has cards k)

  -- the group of different cards below n is a group of as many cards, with the same members
  pub group_is : Group n (length cards) (group n cards)
  group_is =
      run_group n (length cards) (group n cards)
      (ap length picked
      ∙ length_weight (among (has cards) 0 n)
      ∙ among-weight (λ _. 1) n cards below different
      ∙ sym (length_weight cards))
      (among_run (stands cards (length cards)) 0 n n (omega arith))

  -- and has the same bits
  pub bits_group : bits cards ≡ bits (group n cards)
  bits_group =
      bits_weight cards
      ∙ sym (among-weight (λ j. 2 ^ j) n cards below different)
      ∙ sym (bits_weight (among (has cards) 0 n))
      ∙ sym (ap bits picked)

  pub group_holds : (j : ℕ) → Holds (group n cards) j → Holds cards j
  group_holds j h = stands_holds cards j (among_passes (stands cards (length cards)) 0 n j h)

  pub holds_group : (j : ℕ) → Holds cards j → Holds (group n cards) j
  holds_group j h =
      among_holds (stands cards (length cards)) 0 n j (omega arith)
      (omega (arith, subst (λ k. k < n) h.2 (below h.0 h.1)))
      (holds_stands cards j h)
