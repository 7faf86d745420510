-- Rounding up by what is left, and by a division.
use Rattle.std.proofs.Common.{◌≡◌, ℕ, ◌+◌, ◌-◌, ◌*◌, ◌/◌, ◌%◌, ◌<◌, ◌≤◌, ◌∙◌, ⊎_elim, ap, sym, arith}
use Rattle.std.proofs.lemmas.Bool.{cases_lt}
use Rattle.std.proofs.lemmas.Nat.{div-add-mod', div-mul-add}
use Rattle.std.proofs.Math.Nat.{mod-eq_of_lt, mod_self}
use Rattle.std.specs.Int.{next_multiple_of}
use Rattle.lines.proofs.limits.padded_size.Goals as goal

-- q whole times t, and r more
whole_more : (t q r l : ℕ) → r < t → l ≡ q * t + r → l + (t - r) % t ≡ t * ((l + (t - 1)) / t)
whole_more t q r l h e =
    ⊎_elim
    (λ (some : 0 < r).
    let up : (l + (t - 1)) / t ≡ q + 1 = ap (λ n. n / t) (omega arith) ∙ div-mul-add (q + 1) t (r - 1) (omega arith) in
    let left : (t - r) % t ≡ t - r = mod-eq_of_lt (omega arith) in
    rw (up, left) (omega arith))
    (λ (none : r ≤ 0).
    let up : (l + (t - 1)) / t ≡ q = ap (λ n. n / t) (omega arith) ∙ div-mul-add q t (t - 1) (omega arith) in
    let left : (t - r) % t ≡ 0 = ap (λ n. n % t) (omega arith) ∙ mod_self t in
    rw (up, left) (omega arith))
    (cases_lt 0 r)

pub returns : goal.returns
returns c =
    let t = c.args.t in
    let l = c.args.size in
    c.next_multiple_of.ensures.value ∙
    (λ i. next_multiple_of (c.from.ensures i) (c.from-2.ensures i)) ∙
    whole_more t (l / t) (l % t) l (omega arith) (sym (div-add-mod' l t))
