-- Sums: none, one term more, terms that agree. Assumes nothing.
use Rattle.std.proofs.Common.{◌≡◌, ℕ, zero, suc, ◌+◌, ◌<◌, refl, ap, ap₂, add-one, arith}
use Rattle.field.specs.Codes.{Operations, sum}

pub sum_none : (o : Operations) (f : ℕ → ℕ) → sum o 0 f ≡ 0
unfolding sum
sum_none o f = refl

pub sum_more : (o : Operations) (k : ℕ) (f : ℕ → ℕ) → sum o (k + 1) f ≡ o.add (sum o k f) (f k)
unfolding sum
sum_more o k f = ap (λ n. sum o n f) (add-one k)

-- sequences that agree below k have the same sum
pub sum_cong : (o : Operations) (k : ℕ) (f g : ℕ → ℕ) → ((i : ℕ) → i < k → f i ≡ g i) → sum o k f ≡ sum o k g
unfolding sum
sum_cong o zero f g h = refl
sum_cong o (suc k) f g h = ap₂ o.add (sum_cong o k f g (λ i l. h i (omega arith))) (h k (omega arith))
