-- What a computed test shows of every number below a bound. Assumes nothing.
use Rattle.std.specs.Prelude.{◌≡◌, ℕ, zero, suc, ◌<◌, Bool, true, ◌&&◌}
use Rattle.std.proofs.Common.{ap, ◌∙◌, ⊎_elim, arith}
use Rattle.std.proofs.lemmas.Bool.{and_parts, cases_eq}

-- the test passes at each number below k
unfoldable pub every : (ℕ → Bool) → ℕ → Bool
every test zero = true
every test (suc k) = every test k && test k

pub every_at : (test : ℕ → Bool) (k i : ℕ) → every test k ≡ true → i < k → test i ≡ true
unfolding every
every_at test zero i e h = absurd (omega arith)
every_at test (suc k) i e h =
    let w = and_parts (every test k) (test k) e in
    ⊎_elim (λ same. ap test same ∙ w.1) (λ apart. every_at test k i w.0 (omega arith)) (cases_eq i k)
