-- The padding ends with the first block.
use Rattle.std.proofs.Common.{◌≡◌, ℕ, zero, suc, ◌*◌, ◌<◌, ◌≤◌, Bool, cond, not, ◌&&◌, eqb, leb, length, get_or, take, Some, None, Option, refl, ap, ◌∙◌, ap₂, arith}
use Rattle.std.proofs.lemmas.List.{length-take-le, get_or-take}
use Rattle.field.specs.Codes.{first}
use Rattle.deal.proofs.Places.{block_inside}
use Rattle.deal.proofs.store.Store.first_stray.Goals as goal

-- tests that agree below k find the same
first_cong : (f g : ℕ → Bool) (k : ℕ) → ((i : ℕ) → i < k → f i ≡ g i) → first f k ≡ first g k
unfolding first
first_cong f g zero same = refl
first_cong f g (suc k) same =
    ap₂ (λ (o : Option ℕ) (b : Bool). elim o [ Some x ↦ Some x | None ↦ cond b (Some k) None ]) (first_cong f g k (λ i lt. same i (omega arith)))
    (same k (omega arith))

pub returns : goal.returns
returns c =
    let s = c.args.self.now in
    let len = c.args.len in
    let xs = s.numbers.now in
    let w = s.t * s.lanes in
    let fits : w ≤ length xs = omega (arith, s.sized, block_inside s.t w c.requires.0) in
    c.first_not_zero.ensures
    ∙ ap (λ k. first (λ i. leb len i && not (eqb (get_or (take w xs) i 0) 0)) k) (length-take-le w xs fits)
    ∙ first_cong (λ i. leb len i && not (eqb (get_or (take w xs) i 0) 0)) (λ i. leb len i && not (eqb (get_or xs i 0) 0)) w
    (λ i lt. ap (λ x. leb len i && not (eqb x 0)) (get_or-take w xs i 0 lt))
    ∙ ap (λ b. first (λ i. leb len i && not (eqb (get_or xs i 0) 0)) (s.t * b)) c.requires.1
