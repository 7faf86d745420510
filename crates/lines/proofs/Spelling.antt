-- Bytes spelled by two digits each. Assumes nothing.
use Rattle.std.proofs.Common.{◌≡◌, ℕ, zero, suc, ◌+◌, ◌-◌, ◌*◌, ◌/◌, ◌%◌, ◌<◌, ◌≤◌, List, [], ◌∷◌, ◌++◌, length, get_or, sym, refl, ap, zero-add, arith}
use Rattle.std.proofs.lemmas.List.{get_or_past}
use Rattle.lines.specs.Digits.{digit_value, digit_of, hex, spelled, numeral, wide}

pub length-spelled : (ds : List ℕ) → length (spelled ds) ≡ length ds / 2
length-spelled [] = refl
length-spelled (a ∷ []) = refl
length-spelled (a ∷ b ∷ ds) = omega (arith, length-spelled ds)

pub slice_index-spelled : (ds : List ℕ) (k : ℕ) → k < length ds / 2 → get_or (spelled ds) k 0 ≡ digit_value (get_or ds (2 * k) 0) * 16 + digit_value (get_or ds (2 * k + 1) 0)
slice_index-spelled [] k h = absurd (omega arith)
slice_index-spelled (a ∷ []) k h = absurd (omega arith)
slice_index-spelled (a ∷ b ∷ ds) zero h = refl
slice_index-spelled (a ∷ b ∷ ds) (suc k) h =
    let e : 2 * suc k ≡ suc (suc (2 * k)) = omega arith in
    let f : 2 * suc k + 1 ≡ suc (suc (2 * k + 1)) = omega arith in
    rw (f, e) (slice_index-spelled ds k (omega arith))

pub numeral_single : (xs : List ℕ) → length xs ≡ 1 → xs ≡ numeral xs ∷ []
numeral_single [] h = absurd (omega arith)
numeral_single (x ∷ []) h = ap (λ n. n ∷ []) (sym (zero-add x))
numeral_single (x ∷ y ∷ xs) h = absurd (omega arith)

-- a single byte is its own number
pub numeral_one : (xs : List ℕ) → length xs ≤ 1 → numeral xs ≡ get_or xs 0 0
numeral_one [] h = refl
numeral_one (x ∷ []) h = zero-add x
numeral_one (x ∷ y ∷ xs) h = absurd (omega arith)

pub hex-append : (xs ys : List ℕ) → hex (xs ++ ys) ≡ hex xs ++ hex ys
hex-append [] ys = refl
hex-append (x ∷ xs) ys = ap (λ l. digit_of (x / 16) ∷ digit_of (x % 16) ∷ l) (hex-append xs ys)

-- the last byte of a number apart
pub wide_step : (w n : ℕ) → 0 < w → wide w n ≡ wide (w - 1) (n / 256) ++ (n % 256 ∷ [])
wide_step zero n h = absurd (omega arith)
wide_step (suc w) n h =
    let e : w ≡ suc w - 1 = omega arith in
    ap (λ k. wide k (n / 256) ++ (n % 256 ∷ [])) e

-- how many numbers digits spell, and which
pub ruleset spelling = (length-spelled, slice_index-spelled, get_or_past)
