-- Whether the groups of a plan open or hide, decided by computation: a left inverse that is tried out, or a null vector.
-- Assumes nothing.
use Rattle.std.proofs.Common.{◌≡◌, ℕ, zero, suc, ◌+◌, ◌-◌, ◌^◌, ◌<◌, ◌≤◌, Bool, true, false, cond, not, ◌&&◌, ◌||◌, eqb, ltb, List, [], ◌∷◌, ◌++◌, map, length, get_or, Some, None, Option, unwrap_or, sym, refl, ap, ◌∙◌, subst, ⊎_elim, arith}
use Rattle.std.specs.List.{range_with_len}
use Rattle.std.proofs.lemmas.Bool.{and_parts, or_cases, eqb-true, ltb-true, eq-eqb, cases_eq}
use Rattle.field.specs.Codes.{Operations, Laws, sum, first, inverse}
use Rattle.field.specs.Polynomials.{times, reduce}
use Rattle.field.specs.Refusals.{foremost}
use Rattle.sharing.specs.Groups.{Group, bits}
use Rattle.sharing.specs.Scheme.{Plan, Sound}
use Rattle.sharing.specs.Secrecy.{Opens, Hides}
use Rattle.sharing.specs.Systems.{OnlyZero, opening_matrix, hiding_matrix, lane_size}
use Rattle.sharing.proofs.Hiding.{hides_exactly}
use Rattle.sharing.proofs.OneWord.{opens_exactly}
use Rattle.plan_check.specs.Checks.{AllPass, Allowed, Passes, Searched, Settled, failure, group_size, table}
use Rattle.plan_check.specs.declared.property.Property.{Property}
use Rattle.plan_check.specs.declared.property.Property.TheVariants.{Opening, Hiding}
use Rattle.plan_check.proofs.Answering.{all_pass, table_sound}
use Rattle.plan_check.proofs.Ranks.{Run, members, members_run, run_group}
use Rattle.plan_check.proofs.Searching.{Down, down_start, down_more, down_first}
use Rattle.worked.proofs.Inverses.{only_zero_of_inverse}

-- a test of every number below n
unfoldable pub all_below : (n : ℕ) → (ℕ → Bool) → Bool
all_below zero f = true
all_below (suc n) f = all_below n f && f n

pub all_at : (n : ℕ) (f : ℕ → Bool) → all_below n f ≡ true → (i : ℕ) → i < n → f i ≡ true
unfolding all_below
all_at zero f e i h = absurd (omega arith)
all_at (suc n) f e i h =
    let both = and_parts (all_below n f) (f n) e in
    ⊎_elim (λ (s : i ≡ n). ap f s ∙ both.1) (λ (s : i ≡ n → ⊥). all_at n f both.0 i (omega arith)) (cases_eq i n)

-- a matrix reduced with the unit matrix beside it, by rows; what comes of it is only tried out
module _ (o : Operations) where
  unfoldable pub zip : (ℕ → ℕ → ℕ) → List ℕ → List ℕ → List ℕ
  zip f [] ys = []
  zip f (x ∷ xs) [] = []
  zip f (x ∷ xs) (y ∷ ys) = f x y ∷ zip f xs ys

  unfoldable pub clear : (c : ℕ) → List ℕ → List ℕ → List ℕ
  clear c q r = zip (λ x y. o.add x (o.neg (o.mul (get_or r c 0) y))) r q

  -- the first row with a number at c put first
  unfoldable pub front : (c : ℕ) → List (List ℕ) → List (List ℕ)
  front c [] = []
  front c (r ∷ rs) = cond (eqb (get_or r c 0) 0) (swap (front c rs)) (r ∷ rs)
    where
      swap : List (List ℕ) → List (List ℕ)
      swap [] = r ∷ []
      swap (p ∷ ps) = p ∷ r ∷ ps

  unfoldable pub gauss : (k c : ℕ) → (done todo : List (List ℕ)) → List (List ℕ)
  gauss zero c done todo = done
  gauss (suc k) c done todo = step (λ d t. gauss k (c + 1) d t) (front c todo)
    where
      step : (List (List ℕ) → List (List ℕ) → List (List ℕ)) → List (List ℕ) → List (List ℕ)
      step on [] = []
      step on (p ∷ rest) =
          let u = unwrap_or (inverse o (get_or p c 0)) 0 in
          let q = map (o.mul u) p in
          on (map (clear c q) done ++ (q ∷ [])) (map (clear c q) rest)

  unfoldable pub beside : (n : ℕ) → (ℕ → ℕ → ℕ) → List (List ℕ)
  beside n a = map (λ r. map (a r) (range_with_len 0 n) ++ map (λ c. cond (eqb r c) 1 0) (range_with_len 0 n)) (range_with_len 0 n)

  unfoldable pub reduced : (n : ℕ) → (ℕ → ℕ → ℕ) → List (List ℕ)
  reduced n a = gauss n 0 [] (beside n a)

  unfoldable pub candidate : (n : ℕ) → List (List ℕ) → ℕ → ℕ → ℕ
  candidate n m r k = get_or (get_or m r []) (n + k) 0

  unfoldable pub tried : (n : ℕ) → (a b : ℕ → ℕ → ℕ) → Bool
  tried n a b = all_below n (λ r. all_below n (λ c. eqb (sum o n (λ k. o.mul (b r k) (a k c))) (cond (eqb c r) 1 0)))

  unfoldable pub regular : (n : ℕ) → (ℕ → ℕ → ℕ) → Bool
  unfolding tried candidate reduced beside gauss front clear zip all_below sum first inverse times reduce
  regular n a = tried n a (candidate n (reduced n a))

  pub regular_only_zero : Laws o → (n : ℕ) (a : ℕ → ℕ → ℕ) → regular n a ≡ true → OnlyZero o n a
  unfolding regular tried
  regular_only_zero laws n a e =
      only_zero_of_inverse laws n a (candidate n (reduced n a))
      (λ r c h l. eqb-true _ _ (all_at n _ (all_at n _ e r h) c l))

  -- a vector that is sent to zero
  unfoldable pub vanishing : (n : ℕ) → (ℕ → ℕ → ℕ) → List ℕ → (place : ℕ) → Bool
  unfolding all_below sum times reduce
  vanishing n a v place =
      all_below n (λ i. ltb (get_or v i 0) o.size) && (all_below n (λ r. eqb (sum o n (λ i. o.mul (a r i) (get_or v i 0))) 0) && (ltb place n && not (eqb (get_or v place 0) 0)))

  pub vanishing_not_only_zero : (n : ℕ) (a : ℕ → ℕ → ℕ) (v : List ℕ) (place : ℕ) → vanishing n a v place ≡ true → OnlyZero o n a → ⊥
  unfolding vanishing
  vanishing_not_only_zero n a v place e only =
      let p = and_parts (all_below n (λ i. ltb (get_or v i 0) o.size)) _ e in
      let q = and_parts (all_below n (λ r. eqb (sum o n (λ i. o.mul (a r i) (get_or v i 0))) 0)) _ p.1 in
      let s = and_parts (ltb place n) (not (eqb (get_or v place 0) 0)) q.1 in
      let zero-there = only (λ i. get_or v i 0) (record { codes = λ i h. ltb-true _ _ (all_at n _ p.0 i h); rows = λ r h. eqb-true _ _ (all_at n _ q.0 r h) }) place (ltb-true place n s.0) in
      let z : true ≡ false = sym s.1 ∙ ap not (eq-eqb (get_or v place 0) 0 zero-there) in
      let w : ◌≡◌ {A = ℕ} 0 1 = cc in omega arith

-- a group that is tested passes
unfoldable pub group_test : Property → Operations → Plan → List ℕ → Bool
unfolding regular all_below
group_test Opening o p g = all_below p.t (λ i. regular o p.t (opening_matrix p g i))
group_test Hiding o p g = regular o (lane_size p) (hiding_matrix p g)

pub group-passes : (w : Property) {o : Operations} → Laws o → (p : Plan) → Sound o p → (g : List ℕ) → Group p.n (group_size w p.t) g
    → group_test w o p g ≡ true → Passes w o p g
unfolding group_test
group-passes Opening {o} laws p sound g is e =
    (opens_exactly laws p g sound is).1
    (λ i h. regular_only_zero o laws p.t (opening_matrix p g i) (all_at p.t (λ k. regular o p.t (opening_matrix p g k)) e i h))
group-passes Hiding {o} laws p sound g is e =
    (hides_exactly laws p g sound is).0.1 (regular_only_zero o laws (lane_size p) (hiding_matrix p g) e)

-- the same of each check alone
module _ {o : Operations} (laws : Laws o) (p : Plan) (sound : Sound o p) where
  unfoldable pub opens_test : List ℕ → Bool
  unfolding regular all_below
  opens_test g = all_below p.t (λ i. regular o p.t (opening_matrix p g i))

  pub opens_yes : (g : List ℕ) → Group p.n p.t g → opens_test g ≡ true → Opens o p g
  unfolding opens_test
  opens_yes g is e =
      (opens_exactly laws p g sound is).1
      (λ i h. regular_only_zero o laws p.t (opening_matrix p g i) (all_at p.t (λ k. regular o p.t (opening_matrix p g k)) e i h))

  pub hides_yes : (g : List ℕ) → Group p.n (p.t - 1) g → regular o (lane_size p) (hiding_matrix p g) ≡ true → Hides o p g
  hides_yes g is e = (hides_exactly laws p g sound is).0.1 (regular_only_zero o laws (lane_size p) (hiding_matrix p g) e)

-- every group among the m highest ranks of n cards that has k cards passes a test
unfoldable pub high_test : (List ℕ → Bool) → (n k m : ℕ) → Bool
unfolding members
high_test test n k zero = true
high_test test n k (suc m) =
    let here = test (members 0 n (2 ^ n - suc m)) in
    cond (eqb (length (members 0 n (2 ^ n - suc m))) k) here true && high_test test n k m

module _ (Good : List ℕ → Type 0) (test : List ℕ → Bool) (n k : ℕ) (good : (g : List ℕ) → Group n k g → test g ≡ true → Good g) where
  high_good : (m : ℕ) → m ≤ 2 ^ n → high_test test n k m ≡ true → Down Good n k (2 ^ n - m)
  unfolding high_test
  high_good zero h e = down_start Good n k (2 ^ n - 0) (omega arith)
  high_good (suc m) h e =
      let g = members 0 n (2 ^ n - suc m) in
      let both = and_parts (cond (eqb (length g) k) (test g) true) (high_test test n k m) e in
      down_more Good n k (2 ^ n - suc m) (2 ^ n - m) (omega arith) (high_good m (omega arith) both.1)
      (λ is. good g (run_group n k g is (members_run 0 n n (2 ^ n - suc m) (omega arith)))
      (sym (ap (λ b. cond b (test g) true) (eq-eqb (length g) k is)) ∙ both.0))

-- the same, with the test told by `or`
module _ (Good : List ℕ → Type 0) (test : List ℕ → Bool) (n k : ℕ) (good : (g : List ℕ) → Group n k g → test g ≡ true → Good g) where
  unfoldable pub down_test : (m : ℕ) → Bool
  unfolding members
  down_test zero = true
  down_test (suc m) = down_test m && (not (eqb (length (members 0 n (2 ^ n - suc m))) k) || test (members 0 n (2 ^ n - suc m)))

  pub down_tested : (m : ℕ) → m ≤ 2 ^ n → down_test m ≡ true → Down Good n k (2 ^ n - m)
  unfolding down_test
  down_tested zero h e = down_start Good n k (2 ^ n - 0) (omega arith)
  down_tested (suc m) h e =
      let g = members 0 n (2 ^ n - suc m) in
      let both = and_parts (down_test m) (not (eqb (length g) k) || test g) e in
      down_more Good n k (2 ^ n - suc m) (2 ^ n - m) (omega arith) (down_tested m (omega arith) both.0)
      (λ is. ⊎_elim
      (λ apart. let z : true ≡ false = sym apart ∙ ap not (eq-eqb (length g) k is) in let w : ◌≡◌ {A = ℕ} 0 1 = cc in absurd (omega arith))
      (λ hit. good g (run_group n k g is (members_run 0 n n (2 ^ n - suc m) (omega arith))) hit)
      (or_cases (not (eqb (length g) k)) (test g) both.1))

-- a check of a plan that its table passes over
module _ (w : Property) {o : Operations} (laws : Laws o) (p : Plan) (room : ℕ) (clear : foremost (table o p room) ≡ None) where
  pub plan_sound : Sound o p
  plan_sound = (table_sound o p room clear).0

  abbrev size : ℕ
  size = group_size w p.t

  tested : (m : ℕ) → m ≤ 2 ^ p.n → high_test (group_test w o p) p.n size m ≡ true → Down (Passes w o p) p.n size (2 ^ p.n - m)
  tested = high_good (Passes w o p) (group_test w o p) p.n size (group-passes w laws p plan_sound)

  -- every group passes
  pub all_groups : high_test (group_test w o p) p.n size (2 ^ p.n) ≡ true → AllPass w o p
  all_groups e = all_pass w o p (λ g is. tested (2 ^ p.n) (omega arith) e g is (omega arith))

  settled : (a : Option (ℕ × ℕ)) → Searched w o p a → Allowed w o p room a
  settled a h = subst (λ f. Settled w o p f a) (sym clear) h

  -- so the check grants
  pub check_grants : AllPass w o p → Allowed w o p room None
  check_grants all = settled None all

  -- m ranks are passed and the group of the next one fails, so the check refuses
  check_refuses : (m : ℕ) (g : List ℕ) → m < 2 ^ p.n → members 0 p.n (2 ^ p.n - suc m) ≡ g → length g ≡ size
      → high_test (group_test w o p) p.n size m ≡ true → (Group p.n size g → Passes w o p g → ⊥) → Allowed w o p room (Some (failure w, bits g))
  check_refuses m g h its long e bad =
      let is_group = run_group p.n size g long (subst (λ l. Run 0 p.n l) its (members_run 0 p.n p.n (2 ^ p.n - suc m) (omega arith))) in
      settled (Some (failure w, bits g)) (
        g,
        down_first (Passes w o p) p.n size (2 ^ p.n - suc m) (2 ^ p.n - m) g (omega arith) (omega arith) its long (bad is_group) (tested m (omega arith) e),
        refl,
      )

-- a null vector of one of the failing group's matrices
module _ {o : Operations} (laws : Laws o) (p : Plan) (room : ℕ) (clear : foremost (table o p room) ≡ None) (m : ℕ) (g : List ℕ) (h : m < 2 ^ p.n)
    (its : members 0 p.n (2 ^ p.n - suc m) ≡ g) where
  pub admit_refuses : length g ≡ p.t → high_test (group_test Opening o p) p.n p.t m ≡ true
      → (i : ℕ) → i < p.t → (v : List ℕ) (place : ℕ) → vanishing o p.t (opening_matrix p g i) v place ≡ true → Allowed Opening o p room (Some (0x15, bits g))
  admit_refuses long e i l v place null =
      check_refuses Opening laws p room clear m g h its long e
      (λ is opens. vanishing_not_only_zero o p.t (opening_matrix p g i) v place null ((opens_exactly laws p g (plan_sound Opening laws p room clear) is).0 opens i l))

  pub vet_refuses : length g ≡ p.t - 1 → high_test (group_test Hiding o p) p.n (p.t - 1) m ≡ true
      → (v : List ℕ) (place : ℕ) → vanishing o (lane_size p) (hiding_matrix p g) v place ≡ true → Allowed Hiding o p room (Some (0x16, bits g))
  vet_refuses long e v place null =
      check_refuses Hiding laws p room clear m g h its long e
      (λ is hides. vanishing_not_only_zero o (lane_size p) (hiding_matrix p g) v place null ((hides_exactly laws p g (plan_sound Hiding laws p room clear) is).0.0 hides))
