-- The search gives the first row whose number is not 0, or none has one.
use Rattle.std.proofs.Common.{◌≡◌, ◌≢◌, ℕ, refl, rules, tests}
use Rattle.std.proofs.lemmas.Iterator.{first_from_Range}
use Rattle.linear.specs.Pivots.{entry}
use Rattle.linear.proofs.rows.find_pivot.Goals as goal

pub returns-in_err-row : goal.returns-in_err-row
returns-in_err-row c =
    let at : ℕ → ℕ = λ r. entry c.args.width c.args.m.now r c.args.k in
    let found =
    first_from_Range _ _ _ c.find.result (λ r. at r ≢ 0) (λ r. at r ≡ 0) c.find.ensures.ran (λ x q h. search (rules, tests))
    (λ x q h. search (rules, tests)) in
    rw c.from_residual.ensures (rw c.in_err-row.was at found)

pub returns : goal.returns
returns c =
    let at : ℕ → ℕ = λ r. entry c.args.width c.args.m.now r c.args.k in
    let found =
    first_from_Range _ _ _ c.find.result (λ r. at r ≢ 0) (λ r. at r ≡ 0) c.find.ensures.ran (λ x q h. search (rules, tests))
    (λ x q h. search (rules, tests)) in
    let first = rw c.in_ok-row.was at found in
    (first.0, first.1, refl, first.2, first.3)
