-- Parts of a list whose bound is cut down to its length. Assumes nothing.
use Rattle.std.proofs.Common.{◌≡◌, ℕ, min, List, length, take, drop, sym, ap, ◌∙◌, ⊎_elim, arith}
use Rattle.std.proofs.lemmas.List.{drop_all, take_all}
use Rattle.std.proofs.lemmas.Bool.{cases_lt}

pub drop_cut : (p : ℕ) (xs : List ℕ) → drop (min p (length xs)) xs ≡ drop p xs
drop_cut p xs =
    ⊎_elim
    (λ h. let e : min p (length xs) ≡ p = omega arith in ap (λ n. drop n xs) e)
    (λ h. drop_all (min p (length xs)) xs (omega arith) ∙ sym (drop_all p xs h))
    (cases_lt p (length xs))

pub take_cut : (k : ℕ) (xs : List ℕ) → take (min k (length xs)) xs ≡ take k xs
take_cut k xs =
    ⊎_elim
    (λ h. let e : min k (length xs) ≡ k = omega arith in ap (λ n. take n xs) e)
    (λ h. take_all (min k (length xs)) xs (omega arith) ∙ sym (take_all k xs h))
    (cases_lt k (length xs))
