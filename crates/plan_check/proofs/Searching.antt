-- The steps of a search over falling ranks, and of reading a rank card by card. Assumes nothing.
use Rattle.std.proofs.Common.{◌≡◌, ℕ, suc, ◌+◌, ◌-◌, ◌*◌, ◌%◌, ◌^◌, ◌<◌, ◌≤◌, List, ◌∷◌, ◌++◌, length, sym, ap, ◌∙◌, subst, ap₂, ⊎_elim, arith}
use native.Mathlib.Nat.{two-pow-succ}
use Rattle.std.proofs.lemmas.Nat.{one_shl}
use Rattle.std.proofs.lemmas.List.{append-nil, length-append}
use Rattle.std.proofs.lemmas.Bool.{cases_eq}
use Rattle.sharing.specs.Groups.{Group, FirstBad}
use Rattle.plan_check.proofs.Ranks.{members, rank, members_with, members_without, members_run, rank-members, ranked, rank-before, Run, run_group, group_run}

module _ (n c left : ℕ) (some : c < n) where
  here : members c (n - c) left ≡ members c (suc (n - 1 - c)) left
  here = let long : n - c ≡ suc (n - 1 - c) = omega arith in ap (λ m. members c m left) long

  next : (rest : ℕ) → members (suc c) (n - 1 - c) rest ≡ members (c + 1) (n - (c + 1)) rest
  next rest =
      let place : suc c ≡ c + 1 = omega arith in
      let long : n - 1 - c ≡ n - (c + 1) = omega arith in
      ap₂ (λ k m. members k m rest) place long

  -- the next card is not in the rank
  pub step_without : left < 2 ^ (n - 1 - c) → members c (n - c) left ≡ members (c + 1) (n - (c + 1)) left
  step_without h = here ∙ members_without c (n - 1 - c) left h ∙ next left

  -- the next card is in the rank
  pub step_with : 2 ^ (n - 1 - c) ≤ left
      → members c (n - c) left ≡ c ∷ members (c + 1) (n - (c + 1)) (left - 2 ^ (n - 1 - c))
  step_with h = here ∙ members_with c (n - 1 - c) left h ∙ ap (λ l. c ∷ l) (next (left - 2 ^ (n - 1 - c)))

-- what a card weighs in a rank, as the code computes it
pub weight : (n c : ℕ) → c < n → n ≤ 8 → (1 * 2 ^ (n - 1 - c)) % 2 ^ 16 ≡ 2 ^ (n - 1 - c)
weight n c some few = one_shl (n - 1 - c) 16 (omega arith)

module _ (n c left w : ℕ) (all front : List ℕ) (some : c < n) (weighs : w ≡ 2 ^ (n - 1 - c)) (read : all ≡ front ++ members c (n - c) left) where
  -- a card that the rank does not hold is passed over
  pub card_skipped : left < w → (all ≡ front ++ members (c + 1) (n - (c + 1)) left) × (left < 2 ^ (n - (c + 1)))
  card_skipped h =
      let long : n - 1 - c ≡ n - (c + 1) = omega arith in
      let less : left < 2 ^ (n - 1 - c) = omega arith in
      (read ∙ ap (λ l. front ++ l) (step_without n c left some less), subst (λ m. left < 2 ^ m) long less)

  -- a card that the rank holds comes next
  pub card_next : w ≤ left → all ≡ front ++ (c ∷ members (c + 1) (n - (c + 1)) (left - w))
  card_next h =
      let more : 2 ^ (n - 1 - c) ≤ left = omega arith in
      read
      ∙ ap (λ l. front ++ l) (step_with n c left some more)
      ∙ ap (λ v. front ++ (c ∷ members (c + 1) (n - (c + 1)) (left - v))) (sym weighs)

  -- and what is then left of the rank is small enough
  pub card_left : left < 2 ^ (n - c) → w ≤ left → left - w < 2 ^ (n - (c + 1))
  card_left bound h =
      let long : n - c ≡ suc (n - 1 - c) = omega arith in
      let short : n - 1 - c ≡ n - (c + 1) = omega arith in
      let double = two-pow-succ (n - 1 - c) in
      let whole : left < 2 ^ suc (n - 1 - c) = subst (λ m. left < 2 ^ m) long bound in
      subst (λ m. left - w < 2 ^ m) short (omega arith)

-- with one more card there are more than those that are held
pub card-over : (group rest all : List ℕ) (c : ℕ) → all ≡ group ++ (c ∷ rest) → length group < length all
card-over group rest all c e =
    let whole = ap length e ∙ length-append group (c ∷ rest) in omega arith

-- once every card is read, those that are held are the members of the rank, in order
pub cards_held : (n c left r : ℕ) (group cards : List ℕ) → n ≤ c → members 0 n r ≡ group ++ members c (n - c) left → cards ≡ group
    → (members 0 n r ≡ cards) × Run 0 n cards
unfolding members
cards_held n c left r group cards done inv same =
    let none : n - c ≡ 0 = omega arith in
    let read = inv ∙ ap (λ m. group ++ members c m left) none ∙ append-nil group ∙ sym same in
    (read, subst (Run 0 n) read (members_run 0 n n r (omega arith)))

-- every group of k cards of rank r or more is good
abbrev pub Down : (List ℕ → Type 0) → (n k r : ℕ) → Type 0
Down Good n k r = (h : List ℕ) → Group n k h → r ≤ rank n h → Good h

module _ (Good : List ℕ → Type 0) (n k : ℕ) where
  -- no group has a rank of 2 ^ n or more
  pub down_start : (r : ℕ) → 2 ^ n ≤ r → Down Good n k r
  down_start r e h is_group above =
      let below = (ranked 0 n n h (omega arith) (group_run n k h is_group)).0 in absurd (omega arith)

  -- one rank further down, where its members are good or not k
  pub down_more : (r s : ℕ) → s ≡ suc r → Down Good n k s → (length (members 0 n r) ≡ k → Good (members 0 n r)) → Down Good n k r
  down_more r s e down here h is_group above =
      ⊎_elim
      (λ same.
      let its = ap (members 0 n) same ∙ (ranked 0 n n h (omega arith) (group_run n k h is_group)).1 in
      subst Good its (here (ap length its ∙ is_group.0)))
      (λ apart. down h is_group (omega arith))
      (cases_eq r (rank n h))

  -- a bad group with nothing bad above it is the first
  pub down_first : (r s : ℕ) (g : List ℕ) → s ≡ suc r → r < 2 ^ n → members 0 n r ≡ g → length g ≡ k → (Good g → ⊥)
      → Down Good n k s → FirstBad Good n k g
  down_first r s g e small its size bad down =
      let is-run = subst (λ l. Run 0 n l) its (members_run 0 n n r (omega arith)) in
      let its-rank = ap (rank n) (sym its) ∙ rank-members 0 n n r (omega arith) small in
      record {
        is_group = run_group n k g size is-run;
        bad = bad;
        good_before = λ h is_group b.
            let above = rank-before 0 n g h is-run (group_run n k h is_group) (size ∙ sym is_group.0) b in
            down h is_group (omega arith);
      }
