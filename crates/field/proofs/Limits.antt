-- A plan's limits and shape taken apart. Assumes nothing.
use Rattle.std.proofs.Common.{◌≡◌, ℕ, ◌-◌, ◌*◌, ◌≤◌, Bool, true, false, cond, not, ◌&&◌, eqb, leb, List, [], ◌∷◌, Some, None, sym, ap, ◌∙◌}
use Rattle.std.proofs.lemmas.Bool.{and_parts, leb-true, eq-eqb}
use Rattle.field.specs.Refusals.{Rule, foremost}
use Rattle.field.specs.Rows.{within, shape}

pub within-parts : (t n : ℕ) → within t n ≡ true → (2 ≤ t) × (t ≤ n) × (n ≤ 8)
within-parts t n e =
    let outer = and_parts (leb 2 t) (leb t n && leb n 8) e in
    let inner = and_parts (leb t n) (leb n 8) outer.1 in
    (leb-true 2 t outer.0, leb-true t n inner.0, leb-true n 8 inner.1)

-- a line of a table whose condition does not hold is passed over
pub passed_over : (number carried : ℕ) (b : Bool) (rest : List Rule) → b ≡ false → foremost ((number, b, carried) ∷ rest) ≡ foremost rest
passed_over number carried b rest e = ap (λ x. cond x (Some (number, carried)) (foremost rest)) e

pub no_fault : (t n k : ℕ) → true ≡ within t n → k ≡ (n - t) * t → None ≡ foremost (shape t n k)
no_fault t n k w l =
    sym
    (passed_over 0x10 0 (not (within t n)) ((0x11, not (eqb k ((n - t) * t)), 0) ∷ []) (ap not (sym w))
    ∙ passed_over 0x11 0 (not (eqb k ((n - t) * t))) [] (ap not (eq-eqb k ((n - t) * t) l)))
