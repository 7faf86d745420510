-- Where a row comes from when two rows change places. Assumes nothing.
use Rattle.std.proofs.Common.{◌≡◌, ℕ, ◌<◌, cond, eqb, ◌≢◌, sym, refl, ap, ◌∙◌, ⊎_elim}
use Rattle.std.proofs.lemmas.Bool.{eq-eqb, ne_eqb, cases_eq, cond-true, cond-false}
use Rattle.linear.specs.Pivots.{swapped}

pub swapped-first : (k p r : ℕ) → r ≡ k → swapped k p r ≡ p
swapped-first k p r e = cond-true (eqb r k) p (cond (eqb r p) k r) (eq-eqb r k e)

pub swapped_second : (k p r : ℕ) → r ≢ k → r ≡ p → swapped k p r ≡ k
swapped_second k p r n e =
    cond-false (eqb r k) p (cond (eqb r p) k r) (ne_eqb r k n) ∙ cond-true (eqb r p) k r (eq-eqb r p e)

pub swapped_other : (k p r : ℕ) → r ≢ k → r ≢ p → swapped k p r ≡ r
swapped_other k p r n m =
    cond-false (eqb r k) p (cond (eqb r p) k r) (ne_eqb r k n) ∙ cond-false (eqb r p) k r (ne_eqb r p m)

pub swapped_below : (n k p r : ℕ) → k < n → p < n → r < n → swapped k p r < n
swapped_below n k p r hk hp hr =
    ⊎_elim (λ e. rw (swapped-first k p r e) hp)
    (λ a.
    ⊎_elim (λ e. rw (swapped_second k p r a e) hk) (λ b. rw (swapped_other k p r a b) hr) (cases_eq r p))
    (cases_eq r k)

-- the row that comes to stand at t, for a row t other than p
pub swapped_back : (k p t : ℕ) → t ≢ p → (swapped k p (swapped k p t) ≡ t) × (swapped k p t ≢ k)
swapped_back k p t apart =
    ⊎_elim
    (λ e.
    let q : p ≢ k = λ s. apart (e ∙ sym s) in
    let s = swapped-first k p t e in
    (ap (swapped k p) s ∙ swapped_second k p p q refl ∙ sym e, λ x. q (sym s ∙ x)))
    (λ a.
    let s = swapped_other k p t a apart in
    (ap (swapped k p) s ∙ s, λ x. a (sym s ∙ x)))
    (cases_eq t k)
