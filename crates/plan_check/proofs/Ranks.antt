-- Groups of cards counted by rank, so that a loop over falling ranks visits them in dictionary order. Assumes nothing.
-- The rank of a group of n cards is its bits read with card 0 as the highest of n bits.
--   members   the cards from c on, m of them at most, that a rank below 2 ^ m holds
--   rank      the rank of a group
--   Run       cards from c to n − 1, ascending
use Rattle.std.proofs.Common.{◌≡◌, ℕ, zero, suc, ◌+◌, ◌-◌, ◌^◌, ◌<◌, ◌≤◌, cond, leb, ◌⊎◌, List, [], ◌∷◌, length, get_or, sym, refl, ap, ◌∙◌, subst, inl, inr, ⊎_elim, arith}
use native.Mathlib.Nat.{two-pow-succ}
use Rattle.std.proofs.lemmas.Bool.{cases_eq, cases_lt, cases_order, le-leb, lt-leb}
use Rattle.sharing.specs.Groups.{Group, before}

unfoldable pub members : (c m r : ℕ) → List ℕ
members c zero r = []
members c (suc m) r = cond (leb (2 ^ m) r) (c ∷ members (suc c) m (r - 2 ^ m)) (members (suc c) m r)

unfoldable pub rank : (n : ℕ) → List ℕ → ℕ
rank n [] = 0
rank n (j ∷ g) = 2 ^ (n - suc j) + rank n g

abbrev pub Run : (c n : ℕ) → List ℕ → Type 0
Run c n [] = Unit {0}
Run c n (j ∷ g) = (c ≤ j) × (j < n) × Run (suc j) n g

-- a card that the rank holds, and one that it does not
pub members_with : (c m r : ℕ) → 2 ^ m ≤ r → members c (suc m) r ≡ c ∷ members (suc c) m (r - 2 ^ m)
unfolding members
members_with c m r h = rw (le-leb (2 ^ m) r h) refl

pub members_without : (c m r : ℕ) → r < 2 ^ m → members c (suc m) r ≡ members (suc c) m r
unfolding members
members_without c m r h = rw (lt-leb (2 ^ m) r h) refl

pub run_wider : (c n : ℕ) (g : List ℕ) → Run (suc c) n g → Run c n g
run_wider c n [] h = tt
run_wider c n (j ∷ g) h = (omega arith, h.1, h.2)

pub members_run : (c m n r : ℕ) → c + m ≡ n → Run c n (members c m r)
unfolding members
members_run c zero n r e = tt
members_run c (suc m) n r e =
    ⊎_elim
    (λ below. subst (Run c n) (sym (members_without c m r below)) (run_wider c n (members (suc c) m r) (members_run (suc c) m n r (omega arith))))
    (λ above. subst (Run c n) (sym (members_with c m r above)) (omega arith, omega arith, members_run (suc c) m n (r - 2 ^ m) (omega arith)))
    (cases_lt r (2 ^ m))

-- the first card of a group adds its own weight to the rank
pub rank-first : (m n j : ℕ) (g : List ℕ) → suc j + m ≡ n → rank n (j ∷ g) ≡ 2 ^ m + rank n g
unfolding rank
rank-first m n j g e = let place : n - suc j ≡ m = omega arith in ap (λ k. 2 ^ k + rank n g) place

rank_none : (c n r : ℕ) → r < 1 → rank n (members c zero r) ≡ r
unfolding members rank
rank_none c n r h = omega arith

-- the members of a rank have that rank
pub rank-members : (c m n r : ℕ) → c + m ≡ n → r < 2 ^ m → rank n (members c m r) ≡ r
rank-members c zero n r e h = rank_none c n r h
rank-members c (suc m) n r e h =
    ⊎_elim
    (λ below. ap (rank n) (members_without c m r below) ∙ rank-members (suc c) m n r (omega arith) below)
    (λ above.
    let double = two-pow-succ m in
    let rest = rank-members (suc c) m n (r - 2 ^ m) (omega arith) (omega arith) in
    let whole = rank-first m n c (members (suc c) m (r - 2 ^ m)) (omega arith) in
    ap (rank n) (members_with c m r above) ∙ omega (arith, rest, whole))
    (cases_lt r (2 ^ m))

-- that m cards from c on have a rank below 2 ^ m, whose members are those cards
abbrev pub Ranked : (c m n : ℕ) → List ℕ → Type 0
Ranked c m n g = (rank n g < 2 ^ m) × (members c m (rank n g) ≡ g)

ranked_with : (c m n : ℕ) (g : List ℕ) → suc c + m ≡ n → Ranked (suc c) m n g → Ranked c (suc m) n (c ∷ g)
ranked_with c m n g e rest =
    let whole = rank-first m n c g e in
    let double = two-pow-succ m in
    let less : rank n (c ∷ g) - 2 ^ m ≡ rank n g = omega arith in (
      omega (arith, rest.0),
      members_with c m (rank n (c ∷ g)) (omega arith) ∙ ap (λ k. c ∷ members (suc c) m k) less ∙ ap (λ l. c ∷ l) rest.1,
    )

ranked_without : (c m n : ℕ) (g : List ℕ) → Ranked (suc c) m n g → Ranked c (suc m) n g
ranked_without c m n g rest =
    let double = two-pow-succ m in (omega (arith, rest.0), members_without c m (rank n g) rest.0 ∙ rest.1)

pub ranked : (c m n : ℕ) (g : List ℕ) → c + m ≡ n → Run c n g → Ranked c m n g
unfolding members rank
ranked c zero n [] e h = (omega arith, refl)
ranked c zero n (j ∷ g) e h = absurd (omega arith)
ranked c (suc m) n [] e h = ranked_without c m n [] (ranked (suc c) m n [] (omega arith) tt)
ranked c (suc m) n (j ∷ g) e h =
    ⊎_elim
    (λ same.
    let tail : Run (suc c) n g = subst (λ k. Run (suc k) n g) (sym same) h.2 in
    subst (λ k. Ranked c (suc m) n (k ∷ g)) same (ranked_with c m n g (omega arith) (ranked (suc c) m n g (omega arith) tail)))
    (λ apart. ranked_without c m n (j ∷ g) (ranked (suc c) m n (j ∷ g) (omega arith) (omega arith, h.1, h.2)))
    (cases_eq c j)

-- the group that stands before another in the dictionary has the larger rank
pub rank-before : (c n : ℕ) (g h : List ℕ) → Run c n g → Run c n h → length g ≡ length h → before h g → rank n g < rank n h
rank-before c n [] [] gs hs e b = absurd b
rank-before c n [] (y ∷ ys) gs hs e b = absurd (omega arith)
rank-before c n (x ∷ xs) [] gs hs e b = absurd (omega arith)
rank-before c n (x ∷ xs) (y ∷ ys) gs hs e b = go (rank-before (suc x) n xs ys) b
  where
    less : y < x → rank n (x ∷ xs) < rank n (y ∷ ys)
    less l =
        let below = ranked (suc y) (n - suc y) n (x ∷ xs) (omega arith) (l, gs.1, gs.2) in
        let whole = rank-first (n - suc y) n y ys (omega arith) in
        omega (arith, below.0)

    level : x ≡ y → rank n xs < rank n ys → rank n (x ∷ xs) < rank n (y ∷ ys)
    level same l =
        let first = rank-first (n - suc x) n x xs (omega arith) in
        let second = rank-first (n - suc x) n y ys (omega arith) in
        omega arith

    go : (Run (suc x) n xs → Run (suc x) n ys → length xs ≡ length ys → before ys xs → rank n xs < rank n ys)
        → (y < x) ⊎ ((y ≡ x) × before ys xs) → rank n (x ∷ xs) < rank n (y ∷ ys)
    go ih (inl l) = less l
    go ih (inr both) =
        level (sym both.0) (ih gs.2 (subst (λ k. Run (suc k) n ys) both.0 hs.2) (omega arith) both.1)

-- of two groups of one size one stands before the other, or they are the same
pub before-total : (g h : List ℕ) → length g ≡ length h → (g ≡ h) ⊎ (before g h ⊎ before h g)
before-total [] [] e = inl refl
before-total [] (y ∷ ys) e = absurd (omega arith)
before-total (x ∷ xs) [] e = absurd (omega arith)
before-total (x ∷ xs) (y ∷ ys) e = go (cases_order x y) (before-total xs ys (omega arith))
  where
    go : (x ≡ y) ⊎ ((x < y) ⊎ (y < x)) → (xs ≡ ys) ⊎ (before xs ys ⊎ before ys xs)
        → (x ∷ xs ≡ y ∷ ys) ⊎ (before (x ∷ xs) (y ∷ ys) ⊎ before (y ∷ ys) (x ∷ xs))
    go (inl same) (inl rest) = inl (cc)
    go (inl same) (inr (inl rest)) = inr (inl (inr (same, rest)))
    go (inl same) (inr (inr rest)) = inr (inr (inr (sym same, rest)))
    go (inr (inl l)) rest = inr (inl (inl l))
    go (inr (inr l)) rest = inr (inr (inl l))

-- what each card of a run is
pub run_at : (c n : ℕ) (g : List ℕ) → Run c n g → (i : ℕ) → i < length g → (c ≤ get_or g i 0) × (get_or g i 0 < n)
run_at c n [] h i l = absurd (omega arith)
run_at c n (j ∷ g) h zero l = (h.0, h.1)
run_at c n (j ∷ g) h (suc i) l = let rest = run_at (suc j) n g h.2 i (omega arith) in (omega arith, rest.1)

run_ascends : (c n : ℕ) (g : List ℕ) → Run c n g → (i k : ℕ) → i < k → k < length g → get_or g i 0 < get_or g k 0
run_ascends c n [] h i k l m = absurd (omega arith)
run_ascends c n (j ∷ g) h zero zero l m = absurd (omega arith)
run_ascends c n (j ∷ g) h zero (suc k) l m = (run_at (suc j) n g h.2 k (omega arith)).0
run_ascends c n (j ∷ g) h (suc i) zero l m = absurd (omega arith)
run_ascends c n (j ∷ g) h (suc i) (suc k) l m = run_ascends (suc j) n g h.2 i k (omega arith) (omega arith)

-- a run from card 0 on is a group, and a group is such a run
pub run_group : (n k : ℕ) (g : List ℕ) → length g ≡ k → Run 0 n g → Group n k g
run_group n k g e h = (e, λ i l. (run_at 0 n g h i l).1, run_ascends 0 n g h)

group_run_from : (c n : ℕ) (g : List ℕ) → ((i : ℕ) → i < length g → (c ≤ get_or g i 0) × (get_or g i 0 < n))
    → ((i k : ℕ) → i < k → k < length g → get_or g i 0 < get_or g k 0) → Run c n g
group_run_from c n [] places ascends = tt
group_run_from c n (j ∷ g) places ascends =
    let first = places 0 (omega arith) in (
      first.0,
      first.1,
      group_run_from (suc j) n g
          (λ i l. (ascends 0 (suc i) (omega arith) (omega arith), (places (suc i) (omega arith)).1))
          (λ i k l m. ascends (suc i) (suc k) (omega arith) (omega arith)),
    )

pub group_run : (n k : ℕ) (g : List ℕ) → Group n k g → Run 0 n g
group_run n k g h = group_run_from 0 n g (λ i l. (omega arith, h.1 i l)) h.2
