-- How many numbers pass a test when one of them changes sides. Assumes nothing.
use Rattle.std.proofs.Common.{◌≡◌, ℕ, zero, suc, ◌+◌, ◌<◌, Bool, true, false, cond, ◌≢◌, ◌⊎◌, refl, ap, ◌∙◌, inl, inr, add-one, arith}
use Rattle.std.proofs.lemmas.Bool.{cases_eq}
use Rattle.deal.specs.Calls.{tally}

pub tally_same : (f g : ℕ → Bool) (n : ℕ) → ((i : ℕ) → i < n → f i ≡ g i) → tally f n ≡ tally g n
unfolding tally
tally_same f g zero same = refl
tally_same f g (suc k) same =
    let rest : tally f k ≡ tally g k = tally_same f g k (λ i h. same i (omega arith)) in
    let here : f k ≡ g k = same k (omega arith) in
    rw (rest, here)

-- one more number passes the second test than the first
pub tally_more : (f g : ℕ → Bool) (n j : ℕ) → j < n → f j ≡ false → g j ≡ true → ((i : ℕ) → i ≢ j → g i ≡ f i)
    → tally g n ≡ tally f n + 1
unfolding tally
tally_more f g zero j lt no-f yes-g other = absurd (omega arith)
tally_more f g (suc k) j lt no-f yes-g other =
    go (cases_eq k j) (λ below. tally_more f g k j below no-f yes-g other)
  where
    go : (k ≡ j) ⊎ (k ≡ j → ⊥) → (j < k → tally g k ≡ tally f k + 1)
        → tally g k + cond (g k) 1 0 ≡ (tally f k + cond (f k) 1 0) + 1
    go (inl e) before =
        let rest : tally g k ≡ tally f k = tally_same g f k (λ i h. other i (omega arith)) in
        let at_g : g k ≡ true = ap g e ∙ yes-g in
        let at_f : f k ≡ false = ap f e ∙ no-f in
        rw (rest, at_g, at_f) (omega arith)
    go (inr ne) before =
        let rest : tally g k ≡ tally f k + 1 = before (omega arith) in
        let here : g k ≡ f k = other k ne in
        rw (rest, here) (omega arith)

pub tally_none : (n : ℕ) → tally (λ i. false) n ≡ 0
unfolding tally
tally_none zero = refl
tally_none (suc k) = rw (tally_none k) refl

-- one number further
pub tally_next : (f : ℕ → Bool) (k : ℕ) → tally f (k + 1) ≡ tally f k + cond (f k) 1 0
unfolding tally
tally_next f k = rw add-one refl
