-- How many cards are held, by the flags and by the cards. Assumes nothing.
use Rattle.std.proofs.Common.{◌≡◌, ℕ, zero, suc, ◌+◌, ◌*◌, ◌<◌, ◌≤◌, Bool, true, false, cond, List, map, length, get_or, take, drop, set, is_some, Some, None, refl, ap, ◌∙◌, add-one, arith}
use Rattle.std.specs.List.{range_with_len}
use Rattle.std.proofs.lemmas.List.FromFn.{sum_by-map-range_with_len_more}
use Rattle.std.proofs.lemmas.List.{take_all}
use Rattle.std.proofs.lemmas.List.Sums.{sum_by_more, sum_by-set}
use Rattle.slot.specs.Holdings.{card_at, count, tally}

module _ (held : List Bool) (m : List ℕ) (len : ℕ) where
  flag : (b : Bool) (x : List ℕ) → ◌≡◌ {A = ℕ} (cond (is_some (cond b (Some x) None)) 1 0) (cond b 1 0)
  flag true x = refl
  flag false x = refl

  up_to : (n : ℕ) → n ≤ length held → count (map (card_at held m len) (range_with_len 0 n)) ≡ tally (take n held)
  up_to zero h = refl
  up_to (suc n) h =
      let before = up_to n (omega (arith, h)) in
      let a = ap (λ k. count (map (card_at held m len) (range_with_len 0 k))) (add-one n) in
      let b = sum_by-map-range_with_len_more (λ o. cond (is_some o) 1 0) (card_at held m len) 0 n n (omega arith) in
      let d = sum_by_more (λ x. cond x 1 0) held n false (omega (arith, h)) in
      let e = ap (λ k. tally (take k held)) (add-one n) in
      let f = flag (get_or held n false) (take len (drop (70 * n) m)) in
      omega (arith, before, a, b, d, e, f)

  pub count_cards : length held ≡ 8 → count (map (card_at held m len) (range_with_len 0 8)) ≡ tally held
  count_cards e = up_to 8 (omega (arith, e)) ∙ ap tally (take_all 8 held (omega (arith, e)))

module _ (held : List Bool) (j : ℕ) (below : j < length held) where
  pub tally_put : get_or held j false ≡ false → tally (set held j true) ≡ tally held + 1
  tally_put free = omega (arith, sum_by-set (λ x. cond x 1 0) held j true false below, ap {B = ℕ} (λ x. cond x 1 0) free)

  pub tally_some : get_or held j false ≡ true → 0 < tally held
  tally_some is = omega (arith, sum_by-set (λ x. cond x 1 0) held j false false below, ap {B = ℕ} (λ x. cond x 1 0) is)
