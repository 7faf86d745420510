-- How many lanes a deal has, as the library rounds up. Assumes nothing.
use Rattle.std.proofs.Common.{◌≡◌, ℕ, zero, suc, ◌+◌, ◌-◌, ◌*◌, ◌/◌, ◌%◌, ◌<◌, ◌≤◌, min, ap, ◌∙◌, arith, mod-lt}
use Rattle.std.proofs.Math.Nat.{div-add-mod}
use Rattle.std.proofs.lemmas.Nat.{div-mul-add}

rounded_by : (w q r : ℕ) → 1 ≤ w → r < w → q + min 1 r ≡ (q * w + r + (w - 1)) / w
rounded_by w q zero some h =
    let e : q * w + 0 + (w - 1) ≡ q * w + (w - 1) = omega arith in
    let v : (q * w + (w - 1)) / w ≡ q = div-mul-add q w (w - 1) (omega arith) in
    omega (arith, ap (λ x. x / w) e ∙ v)
rounded_by w q (suc r) some h =
    let e : q * w + suc r + (w - 1) ≡ (q + 1) * w + r = omega arith in
    let v : ((q + 1) * w + r) / w ≡ q + 1 = div-mul-add (q + 1) w r (omega arith) in
    omega (arith, ap (λ x. x / w) e ∙ v)

-- a quotient rounded up
pub rounded_up : (k w : ℕ) → 1 ≤ w → k / w + min 1 (k % w) ≡ (k + (w - 1)) / w
rounded_up k w some =
    let whole : k / w * w + k % w ≡ k = omega (arith, div-add-mod k w) in
    rounded_by w (k / w) (k % w) some (mod-lt k (omega arith)) ∙ ap (λ x. (x + (w - 1)) / w) whole
