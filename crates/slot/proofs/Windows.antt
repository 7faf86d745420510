-- What stands in a memory after numbers were laid into it. Assumes nothing.
use Rattle.std.proofs.Common.{◌≡◌, ℕ, ◌+◌, ◌-◌, ◌*◌, ◌<◌, ◌≤◌, min, List, ◌++◌, length, get_or, take, drop, sym, refl, ap, ◌∙◌, ⊎_elim, append_assoc, arith, length-append, length-drop, length-take}
use Rattle.std.proofs.lemmas.List.{ext_get_or, get_or-take, get_or-drop, get_or_append_left, get_or-append_right, length-take-le, take_at, drop_at}
use Rattle.std.proofs.lemmas.List.Edits.{paste_all}
use Rattle.std.proofs.lemmas.Slice.{put_mid-paste}
use Rattle.std.proofs.lemmas.Bool.{cases_order}
use borrow.Rule.Slice.PartMut.{put_mid}
use Rattle.slot.specs.States.{laid}

-- two memories that agree from a on, len numbers far
pub window_same : (len a : ℕ) (m n : List ℕ) → length n ≡ length m → ((i : ℕ) → i < len → get_or n (a + i) 0 ≡ get_or m (a + i) 0) → take len (drop a n) ≡ take len (drop a m)
window_same len a m n e same =
    ext_get_or 0 (take len (drop a n)) (take len (drop a m))
    (length-take len (drop a n) ∙ ap (min len) (length-drop a n ∙ ap (λ k. k - a) e ∙ sym (length-drop a m)) ∙ sym (length-take len (drop a m)))
    (λ i h.
    let lt : i < len = omega (arith, h, length-take len (drop a n)) in
    get_or-take len (drop a n) i 0 lt ∙ get_or-drop a n i 0 ∙ same i lt ∙ sym (get_or-drop a m i 0) ∙ sym (get_or-take len (drop a m) i 0 lt))

-- numbers that were written into a part of a memory are laid into it
pub part_laid : (m : List ℕ) (at k : ℕ) (ys ns : List ℕ) → ys ≡ ns → k ≡ length ns → put_mid at ((at + k) - at) m ys ≡ laid m at ns
part_laid m at k ys ns same e =
    put_mid-paste at ((at + k) - at) m ys ns k same (omega arith) e
    ∙ paste_all m at ns k e
    ∙ ap (λ n. take at m ++ (ns ++ drop (at + n) m)) e

module _ (m : List ℕ) (at : ℕ) (ns : List ℕ) (fits : at + length ns ≤ length m) where
  pub laid_length : length (laid m at ns) ≡ length m
  laid_length =
      omega
      (arith, length-append (take at m) (ns ++ drop (at + length ns) m), length-append ns (drop (at + length ns) m), length-take at m, length-drop (at + length ns) m)

  front : length (take at m) ≡ at
  front = length-take-le at m (omega arith)

  pub laid_before : (x : ℕ) → x < at → get_or (laid m at ns) x 0 ≡ get_or m x 0
  laid_before x lt =
      get_or_append_left (take at m) (ns ++ drop (at + length ns) m) 0 x (omega (arith, front, lt)) ∙ get_or-take at m x 0 lt

  pub laid_after : (x : ℕ) → at + length ns ≤ x → get_or (laid m at ns) x 0 ≡ get_or m x 0
  laid_after x le =
      get_or-append_right (take at m) (ns ++ drop (at + length ns) m) at x 0 front (omega (arith, le))
      ∙ get_or-append_right ns (drop (at + length ns) m) (length ns) (x - at) 0 refl (omega (arith, le))
      ∙ get_or-drop (at + length ns) m (x - at - length ns) 0
      ∙ ap (λ y. get_or m y 0) (omega (arith, le))

  pub laid_window : take (length ns) (drop at (laid m at ns)) ≡ ns
  laid_window =
      ap (take (length ns)) (drop_at (take at m) (ns ++ drop (at + length ns) m) at front)
      ∙ take_at ns (drop (at + length ns) m) (length ns) refl

  -- what stands up to the end of the numbers
  pub laid_front : take (at + length ns) (laid m at ns) ≡ take at m ++ ns
  laid_front =
      ap (take (at + length ns)) (sym (append_assoc (take at m) ns (drop (at + length ns) m)))
      ∙ take_at (take at m ++ ns) (drop (at + length ns) m) (at + length ns) (omega (arith, length-append (take at m) ns, front))

-- another card's numbers are as they were
pub other_window : (m ns : List ℕ) (j k len : ℕ) → (k ≡ j → ⊥) → length ns ≤ 70 → len ≤ 70 → 70 * j + length ns ≤ length m → take len (drop (70 * k) (laid m (70 * j) ns)) ≡ take len (drop (70 * k) m)
other_window m ns j k len ne short l fits =
    window_same len (70 * k) m (laid m (70 * j) ns) (laid_length m (70 * j) ns fits)
    (λ i h.
    ⊎_elim (λ e. absurd (ne e))
    (⊎_elim (λ lt. laid_before m (70 * j) ns fits (70 * k + i) (omega (arith, lt, h))) (λ gt. laid_after m (70 * j) ns fits (70 * k + i) (omega (arith, gt, h))))
    (cases_order k j))
