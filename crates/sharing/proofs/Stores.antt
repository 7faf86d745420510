-- Where the numbers of keys, stores and cards stand: lists of h × b numbers as h places of b lanes. Assumes nothing.
--   laid      the dummy keys whose number for unknown u of lane e is X e u
use Rattle.std.proofs.Common.{◌≡◌, ℕ, zero, suc, ◌+◌, ◌-◌, ◌*◌, ◌/◌, ◌%◌, ◌<◌, ◌≤◌, List, ◌++◌, map, length, get_or, replicate, sym, refl, ap, ◌∙◌, subst, ap₂, ⊎_elim, add_assoc, mul_assoc, suc-mul, mul_comm, add-mul, zero-mul, arith}
use Rattle.std.specs.List.{range_with_len}
use Rattle.std.proofs.lemmas.Nat.{div-add-mod', mod_below, div_below, mul-add-lt, div-mul-add, mod-mul-add}
use Rattle.std.proofs.lemmas.List.FromFn.{length-map-range_with_len, get_or-map-range_with_len}
use Rattle.std.proofs.lemmas.List.{ext_get_or, length-append, length-replicate, get_or_append_left, get_or-append_right, get_or-append-add, get_or_past, get_or-replicate}
use Rattle.std.proofs.lemmas.Bool.{cases_lt}
use Rattle.field.specs.Codes.{Operations}
use Rattle.linear.specs.Casting.{cast}
use Rattle.sharing.specs.Scheme.{Plan, Codes, lanes, padded, store, stored, word, card}
use Rattle.sharing.specs.Secrecy.{Alike}

-- a place and a lane make an index within the list
pub within : (h b u e : ℕ) → u < h → e < b → u * b + e < h * b
within h b u e hu he = omega (arith, mul-add-lt u b e h hu he, mul_comm b h)

-- what holds at every place and lane holds at every index
pub by-lanes : (h b : ℕ) (P : ℕ → Type 0) → ((u e : ℕ) → u < h → e < b → P (u * b + e)) → (i : ℕ) → i < h * b → P i
by-lanes h b P each i l =
    let pos : 0 < b = positive b refl in
    subst P (div-add-mod' i b) (each (i / b) (i % b) (div_below i b h pos l) (mod_below i b pos))
  where
    positive : (z : ℕ) → b ≡ z → 0 < b
    positive zero e = absurd (omega (arith, mul_comm h b, zero-mul h, ap (λ n. n * h) e))
    positive (suc z) e = omega arith

-- lists of h × b numbers are equal where they agree at every place and lane
pub same_by_lanes : (h b : ℕ) (xs ys : List ℕ) → length xs ≡ h * b → length ys ≡ h * b
    → ((u e : ℕ) → u < h → e < b → get_or xs (u * b + e) 0 ≡ get_or ys (u * b + e) 0) → xs ≡ ys
same_by_lanes h b xs ys lx ly same =
    ext_get_or 0 xs ys (lx ∙ sym ly)
    (λ i l. by-lanes h b (λ n. get_or xs n 0 ≡ get_or ys n 0) same i (subst (λ n. i < n) lx l))

-- t pieces of b numbers hold the key
pub lanes_enough : (t L : ℕ) → 0 < t → L ≤ t * lanes t L
lanes_enough t L pos =
    omega (arith, div-add-mod' (L + (t - 1)) t, mod_below (L + (t - 1)) t pos, mul_comm (lanes t L) t)

-- a key of t numbers has one lane
pub lanes_one : (t : ℕ) → 0 < t → lanes t t ≡ 1
lanes_one t pos =
    ap (λ n. n / t) (omega (arith, suc-mul 0 t, zero-mul t)) ∙ div-mul-add 1 t (t - 1) (omega arith)

pub length-padded : (t L : ℕ) (key : List ℕ) → 0 < t → length key ≡ L → length (padded t L key) ≡ t * lanes t L
length-padded t L key pos long =
    length-append key (replicate (t * lanes t L - L) 0)
    ∙ omega (arith, long, length-replicate {A = ℕ} (t * lanes t L - L) 0, lanes_enough t L pos)

-- a list of codes reads as codes everywhere, since past its end it reads as 0
pub codes_all : (o : Operations) → 0 < o.size → (xs : List ℕ) → Codes o xs → (i : ℕ) → get_or xs i 0 < o.size
codes_all o some xs codes i =
    ⊎_elim (λ l. codes i l) (λ past. subst (λ x. x < o.size) (sym (get_or_past xs i 0 past)) some) (cases_lt i (length xs))

pub codes_append : (o : Operations) (xs ys : List ℕ) → ((i : ℕ) → get_or xs i 0 < o.size) → ((i : ℕ) → get_or ys i 0 < o.size)
    → (i : ℕ) → get_or (xs ++ ys) i 0 < o.size
codes_append o xs ys hx hy i =
    ⊎_elim (λ l. subst (λ x. x < o.size) (sym (get_or_append_left xs ys 0 i l)) (hx i))
    (λ past. subst (λ x. x < o.size) (sym (get_or-append_right xs ys (length xs) i 0 refl past)) (hy (i - length xs)))
    (cases_lt i (length xs))

pub codes_zeros : (o : Operations) → 0 < o.size → (n : ℕ) → Codes o (replicate n 0)
codes_zeros o some n i l =
    subst (λ x. x < o.size) (sym (get_or-replicate n i 0 0 (subst (λ m. i < m) (length-replicate n 0) l))) some

pub codes_padded : (o : Operations) → 0 < o.size → (t L : ℕ) (key : List ℕ) → Codes o key → (i : ℕ) → get_or (padded t L key) i 0 < o.size
codes_padded o some t L key codes =
    codes_append o key (replicate (t * lanes t L - L) 0) (codes_all o some key codes)
    (codes_all o some (replicate (t * lanes t L - L) 0) (codes_zeros o some (t * lanes t L - L)))

module _ (t L : ℕ) (key dummies : List ℕ) (pos : 0 < t) (long : length key ≡ L) where
  -- block 0 of the store is the padded key
  pub stored_key : (c e : ℕ) → c < t → e < lanes t L
      → stored t (lanes t L) (store t L key dummies) 0 c e ≡ get_or (padded t L key) (c * lanes t L + e) 0
  stored_key c e hc he =
      ap (λ n. get_or (store t L key dummies) (n * lanes t L + e) 0) (omega (arith, zero-mul t))
      ∙ get_or_append_left (padded t L key) dummies 0 (c * lanes t L + e)
      (subst (λ n. c * lanes t L + e < n) (sym (length-padded t L key pos long)) (within t (lanes t L) c e hc he))

  -- block i of the store, i from 1, is dummy key i
  pub stored_dummy : (i k c e : ℕ) → i ≡ k + 1
      → stored t (lanes t L) (store t L key dummies) i c e ≡ get_or dummies ((k * t + c) * lanes t L + e) 0
  stored_dummy i k c e is =
      ap (λ n. get_or (store t L key dummies) n 0)
      (ap (λ n. n * lanes t L + e) (ap (λ n. n * t + c) is ∙ omega (arith, add-mul k 1 t, suc-mul 0 t, zero-mul t))
      ∙ ap (λ n. n + e) (add-mul t (k * t + c) (lanes t L))
      ∙ add_assoc (t * lanes t L) ((k * t + c) * lanes t L) e
      ∙ ap (λ n. n + ((k * t + c) * lanes t L + e)) (sym (length-padded t L key pos long)))
      ∙ get_or-append-add (padded t L key) dummies ((k * t + c) * lanes t L + e) 0

abbrev pub laid : (t b : ℕ) → (ℕ → ℕ → ℕ) → List ℕ
laid t b X = map (λ y. X (y % b) (y / b)) (range_with_len 0 ((t - 1) * (t * b)))

pub length-laid : (t b : ℕ) (X : ℕ → ℕ → ℕ) → length (laid t b X) ≡ (t - 1) * (t * b)
length-laid t b X = length-map-range_with_len (λ y. X (y % b) (y / b)) 0 ((t - 1) * (t * b))

pub slice_index-laid : (t b : ℕ) (X : ℕ → ℕ → ℕ) (u e : ℕ) → u < (t - 1) * t → e < b → get_or (laid t b X) (u * b + e) 0 ≡ X e u
slice_index-laid t b X u e hu he =
    get_or-map-range_with_len (λ y. X (y % b) (y / b)) 0 ((t - 1) * (t * b)) (u * b + e) (u * b + e) 0
    (omega (arith, within ((t - 1) * t) b u e hu he, mul_assoc (t - 1) t b))
    (omega arith)
    ∙ ap₂ X (mod-mul-add u b e he) (div-mul-add u b e he)

pub codes_laid : (o : Operations) (t b : ℕ) (X : ℕ → ℕ → ℕ)
    → ((e u : ℕ) → e < b → u < (t - 1) * t → X e u < o.size) → Codes o (laid t b X)
codes_laid o t b X codes i l =
    by-lanes ((t - 1) * t) b (λ n. get_or (laid t b X) n 0 < o.size)
    (λ u e hu he. subst (λ x. x < o.size) (sym (slice_index-laid t b X u e hu he)) (codes e u he hu))
    i (omega (arith, l, length-laid t b X, mul_assoc (t - 1) t b))

module _ (o : Operations) (p : Plan) (b : ℕ) where
  -- number i × b + e of a card
  pub card_number : (s : List ℕ) (j i e : ℕ) → i < p.t → e < b
      → get_or (card o p b s j) (i * b + e) 0 ≡ cast o p.t p.rows (word o p.t b s i e) ((j + i) % p.n)
  card_number s j i e hi he =
      get_or-map-range_with_len (λ x. cast o p.t p.rows (word o p.t b s (x / b) (x % b)) ((j + x / b) % p.n)) 0 (p.t * b)
      (i * b + e) (i * b + e) 0 (within p.t b i e hi he) (omega arith)
      ∙ ap₂ (λ x y. cast o p.t p.rows (word o p.t b s x y) ((j + x) % p.n)) (div-mul-add i b e he) (mod-mul-add i b e he)

  pub length_card : (s : List ℕ) (j : ℕ) → length (card o p b s j) ≡ p.t * b
  length_card s j =
      length-map-range_with_len (λ x. cast o p.t p.rows (word o p.t b s (x / b) (x % b)) ((j + x / b) % p.n)) 0 (p.t * b)

  -- row i of lane e of the group's m-th card
  abbrev pub number : List ℕ → (g : List ℕ) → (m i e : ℕ) → ℕ
  number s g m i e = cast o p.t p.rows (word o p.t b s i e) ((get_or g m 0 + i) % p.n)

  abbrev pub SameNumbers : (g s s' : List ℕ) → Type 0
  SameNumbers g s s' = (m i e : ℕ) → m < length g → i < p.t → e < b → number s g m i e ≡ number s' g m i e

  -- stores give a group the same cards exactly if they give it the same numbers
  pub numbers_of_alike : (g s s' : List ℕ) → Alike o p b g s s' → SameNumbers g s s'
  numbers_of_alike g s s' alike m i e hm hi he =
      sym (card_number s (get_or g m 0) i e hi he)
      ∙ ap (λ xs. get_or xs (i * b + e) 0) (alike (get_or g m 0) (m, hm, refl))
      ∙ card_number s' (get_or g m 0) i e hi he

  pub alike_of_numbers : (g s s' : List ℕ) → SameNumbers g s s' → Alike o p b g s s'
  alike_of_numbers g s s' same j held =
      subst (λ j. card o p b s j ≡ card o p b s' j) held.2
      (same_by_lanes p.t b _ _ (length_card s (get_or g held.0 0)) (length_card s' (get_or g held.0 0))
      (λ i e hi he.
      card_number s (get_or g held.0 0) i e hi he
      ∙ same held.0 i e held.1 hi he
      ∙ sym (card_number s' (get_or g held.0 0) i e hi he)))
