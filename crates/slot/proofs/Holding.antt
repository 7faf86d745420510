-- What a slot holds after a card was put in or taken out. Assumes nothing.
use Rattle.std.proofs.Common.{◌≡◌, ℕ, ◌+◌, ◌-◌, ◌*◌, ◌<◌, ◌≤◌, true, false, ◌&&◌, eqb, leb, map, get_or, set, Some, None, Option, unwrap_or, sym, refl, ap, ◌∙◌, subst, ⊎_elim, mul_comm, arith}
use Rattle.std.specs.List.{range_with_len}
use Rattle.std.proofs.lemmas.Nat.{div-add-mod'}
use Rattle.std.proofs.lemmas.List.FromFn.{length-map-range_with_len, get_or-map-range_with_len}
use Rattle.std.proofs.lemmas.List.{same_lists, length-set, get_or-set_same, get_or-set_other}
use Rattle.std.proofs.lemmas.Bool.{cases_eq, cases_lt, and_parts, eqb-true, leb-true, not-false}
use Rattle.field.specs.Rows.{within}
use Rattle.field.proofs.Limits.{within-parts}
use Rattle.sharing.specs.Scheme.{lanes}
use Rattle.slot.specs.Holdings.{card_length, most, within_limits}
use Rattle.slot.specs.Inserts.{differs, same_heading}
use Rattle.slot.specs.declared.phase.Heading.{Heading}

-- one element of a list made from a function of the index
pub set_counted : {X : Type 0} (f g : ℕ → X) (n j : ℕ) (v : X) → j < n → g j ≡ v → ((k : ℕ) → k < n → (k ≡ j → ⊥) → g k ≡ f k) → map g (range_with_len 0 n) ≡ set (map f (range_with_len 0 n)) j v
set_counted f g n j v below here other =
    let xs = map f (range_with_len 0 n) in
    same_lists (map g (range_with_len 0 n)) (set xs j v) (length-map-range_with_len g 0 n ∙ sym (length-set xs j v ∙ length-map-range_with_len f 0 n))
    (λ k d h.
    let lt : k < n = omega (arith, h, length-map-range_with_len g 0 n) in
    ⊎_elim
    (λ e. get_or-map-range_with_len g 0 n k k d lt (omega arith) ∙ ap g e ∙ here ∙ sym (ap (λ i. get_or (set xs j v) i d) e ∙ get_or-set_same xs j v d (omega (arith, length-map-range_with_len f 0 n, below))))
    (λ ne. get_or-map-range_with_len g 0 n k k d lt (omega arith) ∙ other k lt ne ∙ sym (get_or-set_other xs j k v d ne ∙ get_or-map-range_with_len f 0 n k k d lt (omega arith)))
    (cases_eq k j))

eight : (L : ℕ) → L ≤ 64 → 8 * lanes 8 L ≤ 70
eight L h = omega (arith, h)

-- a card has at most 70 numbers
pub card_fits : (h : Heading) → within_limits (Some h) ≡ true → card_length (Some h) ≤ 70
card_fits h e =
    let t = h.t in
    let L = h.size in
    let a = and_parts (within t h.n) (leb 1 L && leb L 64) e in
    let w = within-parts t h.n a.0 in
    let s = leb-true L 64 (and_parts (leb 1 L) (leb L 64) a.1).1 in
    ⊎_elim
    (λ lt. omega (arith, lt, s, w.0, div-add-mod' (L + (t - 1)) t, mul_comm (lanes t L) t))
    (λ ge. let is : 8 ≡ t = omega (arith, ge, w.1, w.2) in let le = eight L s in subst (λ k. k * lanes k L ≤ 70) is le)
    (cases_lt t 8)

module _ (f h : Heading) (same : differs (Some f) h ≡ false) where
  parts : (f.t ≡ h.t) × (f.n ≡ h.n) × (f.size ≡ h.size)
  parts =
      let a = not-false (same_heading f h) same in
      let b = (and_parts (eqb f.mark.number h.mark.number) (eqb f.t h.t && (eqb f.n h.n && eqb f.size h.size)) a).1 in
      let d = and_parts (eqb f.t h.t) (eqb f.n h.n && eqb f.size h.size) b in
      let e = and_parts (eqb f.n h.n) (eqb f.size h.size) d.1 in
      (eqb-true f.t h.t d.0, eqb-true f.n h.n e.0, eqb-true f.size h.size e.1)

-- a card that does not differ has as many numbers, and as many cards beside it, as those held
pub same_length : (o : Option Heading) (h : Heading) → differs o h ≡ false → card_length (Some (unwrap_or o h)) ≡ card_length (Some h)
same_length None h e = refl
same_length (Some f) h e = let p = parts f h e in λ i. p.0 i * lanes (p.0 i) (p.2 i)

pub same_most : (o : Option Heading) (h : Heading) → differs o h ≡ false → most (Some (unwrap_or o h)) ≡ most (Some h)
same_most None h e = refl
same_most (Some f) h e = (parts f h e).1

-- where a card is held there is a first card
pub first_stays : (o : Option Heading) (h : Heading) (k : ℕ) → k < most o → o ≡ Some (unwrap_or o h)
first_stays None h k lt = absurd (omega (arith, lt))
first_stays (Some f) h k lt = refl

pub limits_stay : (o : Option Heading) (h : Heading) → within_limits o ≡ true → within_limits (Some h) ≡ true → within_limits (Some (unwrap_or o h)) ≡ true
limits_stay None h e g = g
limits_stay (Some f) h e g = e

-- a card's number is below 8
pub number_below : (h : Heading) (j : ℕ) → within_limits (Some h) ≡ true → j < h.n → j < 8
number_below h j e lt =
    let w = within-parts h.t h.n (and_parts (within h.t h.n) (leb 1 h.size && leb h.size 64) e).0 in
    omega (arith, w.2, lt)

pub most_eight : (o : Option Heading) → within_limits o ≡ true → most o ≤ 8
most_eight None e = omega arith
most_eight (Some h) e =
    let w = within-parts h.t h.n (and_parts (within h.t h.n) (leb 1 h.size && leb h.size 64) e).0 in
    w.2

pub length_fits : (o : Option Heading) → within_limits o ≡ true → card_length o ≤ 70
length_fits None e = omega arith
length_fits (Some h) e = card_fits h e
