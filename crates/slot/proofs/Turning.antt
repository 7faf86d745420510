-- A loop over numbers that an iterator gives with their places. Assumes nothing.
use Rattle.std.proofs.Common.{◌≡◌, ℕ, ◌<◌, List, length, get_or, Some, None, Option, ap, ◌∙◌, arith}
use Rattle.std.specs.Iterator.{Yields}
use Rattle.std.specs.List.{enumerate_from}
use Rattle.std.proofs.lemmas.Iterator.{YieldsList}
use Rattle.std.proofs.lemmas.Iterator.Consumers.{YieldsList-end, YieldsList-turn}
use Rattle.std.proofs.lemmas.List.FromFn.{get_or-enumerate_from, length-enumerate_from}

module _ {S : Type 0} {steps : S → Option (ℕ × ℕ) → S → Type 0} {s : S} (all : List ℕ) (road : YieldsList steps (λ p. (p.0, p.1)) s (enumerate_from 0 all))
    (xs : List (ℕ × ℕ)) (t : S) (y : Yields steps s xs t) (r : Option (ℕ × ℕ)) (u : S) where
  -- the next of them
  pub turned : (place x : ℕ) → r ≡ Some (place, x) → steps t r u → (place ≡ length xs) × (length xs < length all) × (x ≡ get_or all (length xs) x)
  turned place x is step =
      let turn = YieldsList-turn road xs t y r u (place, x) is step in
      let below : length xs < length all = omega (arith, turn.0, length-enumerate_from {X = ℕ} 0 all) in
      let here = turn.1 ∙ get_or-enumerate_from 0 all (length xs) (place, x) below in
      (ap (λ p. p.0) here ∙ omega arith, below, ap (λ p. p.1) here)

  -- all of them
  pub turned_all : r ≡ None → steps t r u → length xs ≡ length all
  turned_all is step = (YieldsList-end road xs t y r u is step).1 ∙ length-enumerate_from {X = ℕ} 0 all
