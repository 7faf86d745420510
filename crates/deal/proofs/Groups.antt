-- A group of cards made larger, and the test of being in it. Assumes nothing.
use Rattle.std.proofs.Common.{◌≡◌, ℕ, zero, suc, ◌+◌, ◌-◌, ◌<◌, ◌≤◌, true, false, eqb, ◌⊎◌, List, [], ◌∷◌, length, get_or, sym, refl, ap, subst, inl, inr, ⊎_elim, arith}
use Rattle.std.proofs.lemmas.Bool.{eqb-true, eq-eqb, or_cases, or_left, or_right, cases_eq, false≢true}
use Rattle.sharing.specs.Groups.{Group, Holds}
use Rattle.deal.specs.Onlooker.{among}

pub holds_among : (g : List ℕ) (j i : ℕ) → i < length g → get_or g i 0 ≡ j → among g j ≡ true
holds_among [] j i lt e = absurd (omega arith)
holds_among (x ∷ g) j zero lt e = or_left (eqb x j) (among g j) (eq-eqb x j e)
holds_among (x ∷ g) j (suc i) lt e = or_right (eqb x j) (among g j) (holds_among g j i (omega arith) e)

pub among_holds : (g : List ℕ) (j : ℕ) → among g j ≡ true → Holds g j
among_holds [] j e = absurd (false≢true e)
among_holds (x ∷ g) j e = go (or_cases (eqb x j) (among g j) e) (among_holds g j)
  where
    go : (eqb x j ≡ true) ⊎ (among g j ≡ true) → (among g j ≡ true → Holds g j) → Holds (x ∷ g) j
    go (inl q) more = (0, omega arith, eqb-true x j q)
    go (inr q) more = let m = more q in (suc m.0, omega (arith, m.1), m.2)

-- ascending numbers from a on, below n
abbrev Ascends : (a n : ℕ) → List ℕ → Type 0
Ascends a n [] = Unit {0}
Ascends a n (x ∷ g) = (a ≤ x) × (x < n) × Ascends (suc x) n g

-- one number more, while there is room
more : (a n : ℕ) (g : List ℕ) → Ascends a n g → length g + a < n
    → (g' : List ℕ) × Ascends a n g' × (length g' ≡ suc (length g)) × ((j : ℕ) → among g j ≡ true → among g' j ≡ true)
more a n [] asc room = (a ∷ [], (omega arith, omega arith, tt), refl, λ j e. or_right (eqb a j) false e)
more a n (x ∷ g) asc room = go (cases_eq x a) (more (suc a) n g)
  where
    go : (x ≡ a) ⊎ (x ≡ a → ⊥)
        → (Ascends (suc a) n g → length g + suc a < n
        → (g' : List ℕ) × Ascends (suc a) n g' × (length g' ≡ suc (length g)) × ((j : ℕ) → among g j ≡ true → among g' j ≡ true))
        → (g' : List ℕ) × Ascends a n g' × (length g' ≡ suc (suc (length g))) × ((j : ℕ) → among (x ∷ g) j ≡ true → among g' j ≡ true)
    go (inl e) rest =
        let r = rest (subst (λ v. Ascends (suc v) n g) e asc.2) (omega arith) in (
          x ∷ r.0,
          (asc.0, asc.1, subst (λ v. Ascends (suc v) n r.0) (sym e) r.1),
          ap suc r.2,
          λ j q. ⊎_elim (or_left (eqb x j) (among r.0 j)) (λ h. or_right (eqb x j) (among r.0 j) (r.3 j h)) (or_cases (eqb x j) (among g j) q),
        )
    go (inr ne) rest = (a ∷ x ∷ g, (omega arith, omega (arith, asc.1), (omega (arith, asc.0), asc.1, asc.2)), refl, λ j q. or_right (eqb a j) (among (x ∷ g) j) q)

-- so many numbers more
extend : (k n : ℕ) (g : List ℕ) → Ascends 0 n g → length g + k ≤ n
    → (g' : List ℕ) × Ascends 0 n g' × (length g' ≡ length g + k) × ((j : ℕ) → among g j ≡ true → among g' j ≡ true)
extend zero n g asc room = (g, asc, omega arith, λ j e. e)
extend (suc k) n g asc room =
    let m = more 0 n g asc (omega arith) in
    let r = extend k n m.0 m.1 (omega (arith, m.2)) in
    (r.0, r.1, omega (arith, m.2, r.2), λ j e. r.3 j (m.3 j e))

from_group : (a n : ℕ) (g : List ℕ) → ((i : ℕ) → i < length g → a ≤ get_or g i 0) → ((i : ℕ) → i < length g → get_or g i 0 < n)
    → ((i h : ℕ) → i < h → h < length g → get_or g i 0 < get_or g h 0) → Ascends a n g
from_group a n [] low high asc = tt
from_group a n (x ∷ g) low high asc = (
  low 0 (omega arith),
  high 0 (omega arith),
  from_group (suc x) n g (λ i lt. asc 0 (suc i) (omega arith) (omega arith)) (λ i lt. high (suc i) (omega arith))
      (λ i h lt up. asc (suc i) (suc h) (omega arith) (omega arith)),
)

within : (a n : ℕ) (g : List ℕ) → Ascends a n g → (i : ℕ) → i < length g → (a ≤ get_or g i 0) × (get_or g i 0 < n)
within a n [] asc i lt = absurd (omega arith)
within a n (x ∷ g) asc zero lt = (asc.0, asc.1)
within a n (x ∷ g) asc (suc i) lt =
    let r = within (suc x) n g asc.2 i (omega arith) in
    (omega (arith, r.0, asc.0), r.1)

rising : (a n : ℕ) (g : List ℕ) → Ascends a n g → (i h : ℕ) → i < h → h < length g → get_or g i 0 < get_or g h 0
rising a n [] asc i h lt up = absurd (omega arith)
rising a n (x ∷ g) asc i zero lt up = absurd (omega arith)
rising a n (x ∷ g) asc zero (suc h) lt up = (within (suc x) n g asc.2 h (omega arith)).0
rising a n (x ∷ g) asc (suc i) (suc h) lt up = rising (suc x) n g asc.2 i h (omega arith) (omega arith)

-- a group of k cards that holds each card of a smaller one
pub enlarged : (n k : ℕ) (g : List ℕ) → Group n (length g) g → length g ≤ k → k ≤ n
    → (g' : List ℕ) × Group n k g' × ((j : ℕ) → Holds g j → Holds g' j)
enlarged n k g is small room =
    let asc : Ascends 0 n g = from_group 0 n g (λ i lt. omega arith) is.1 is.2 in
    let r = extend (k - length g) n g asc (omega arith) in (
      r.0,
      (omega (arith, r.2), (λ i lt. (within 0 n r.0 r.1 i lt).1), rising 0 n r.0 r.1),
      λ j h. among_holds r.0 j (r.3 j (holds_among g j h.0 h.1 h.2)),
    )
