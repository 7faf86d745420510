-- Numbers of the padding that are zero, and the first that is not. Assumes nothing.
use Rattle.std.proofs.Common.{◌≡◌, ℕ, ◌<◌, ◌≤◌, Bool, false, not, ◌&&◌, eqb, ltb, List, length, get_or, replicate, None, ap, ⊎_elim, arith}
use Rattle.std.proofs.lemmas.List.{get_or-replicate, get_or_past, length-replicate}
use Rattle.std.proofs.lemmas.Bool.{cases_lt, lt-ltb, eq-eqb, and_left, and_right}
use Rattle.plan_check.proofs.First.{first_nothing}
use Rattle.opening.specs.Words.{first_loose}

-- a list of zeros reads as 0 everywhere
pub zero_at : (n y : ℕ) → get_or {A = ℕ} (replicate n 0) y 0 ≡ 0
zero_at n y =
    ⊎_elim (λ l. get_or-replicate n y 0 0 l)
    (λ past. get_or_past (replicate n 0) y 0 (omega (arith, length-replicate {A = ℕ} n 0)))
    (cases_lt y n)

module _ (L : ℕ) (key : List ℕ) where
  -- number i is in the padding and not zero
  abbrev pub loose : ℕ → Bool
  loose i = not (ltb i L) && not (eqb (get_or key i 0) 0)

  -- before place k all padding is zero
  tight_at : (k i : ℕ) → ((j : ℕ) → L ≤ j → j < k → get_or key j 0 ≡ 0) → i < k → loose i ≡ false
  tight_at k i zeros h =
      ⊎_elim (λ l. and_left (not (ltb i L)) (not (eqb (get_or key i 0) 0)) (ap not (lt-ltb i L l)))
      (λ l. and_right (not (ltb i L)) (not (eqb (get_or key i 0) 0)) (ap not (eq-eqb (get_or key i 0) 0 (zeros i l h))))
      (cases_lt i L)

  pub loose_none : ((j : ℕ) → L ≤ j → j < length key → get_or key j 0 ≡ 0) → first_loose L key ≡ None
  loose_none zeros = first_nothing loose (length key) (λ i h. tight_at (length key) i zeros h)
