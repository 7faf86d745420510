-- Digits, bytes and numbers, there and back. Assumes nothing.
use Rattle.std.proofs.Common.{◌≡◌, ℕ, zero, suc, ◌+◌, ◌*◌, ◌/◌, ◌%◌, ◌^◌, ◌<◌, ◌≤◌, true, List, [], ◌∷◌, ◌++◌, length, get_or, take, sym, refl, ap, ◌∙◌, pow-suc, arith}
use native.Mathlib.Nat.{pow-le-pow_right}
use Rattle.std.specs.List.{AllByRecursion}
use Rattle.std.specs.Int.Digits.{AllBelowBase}
use Rattle.std.proofs.lemmas.Int.Digits.{number_lt, number_push}
use Rattle.std.proofs.ByRecursion.{All-push, All-take, All-get_or}
use Rattle.std.proofs.lemmas.List.{take_more, take_all, length_push, length-take-le}
use Rattle.std.proofs.lemmas.Bool.Decides.{nat_tests}
use Rattle.lines.specs.Digits.{is_digit, digit_value, digit_of, hex, spelled, numeral, wide}

pub digit_value_below : (b : ℕ) → digit_value b < 16
digit_value_below b = grind (arith, nat_tests)

pub digit_value-digit_of : (d : ℕ) → d < 16 → digit_value (digit_of d) ≡ d
digit_value-digit_of d h = grind (arith, nat_tests)

pub is_digit-digit_of : (d : ℕ) → d < 16 → is_digit (digit_of d) ≡ true
is_digit-digit_of d h = grind (arith, nat_tests)

pub digit_of-digit_value : (b : ℕ) → is_digit b ≡ true → digit_of (digit_value b) ≡ b
digit_of-digit_value b h = grind (arith, nat_tests)

pub under_spelled : (ds : List ℕ) → AllBelowBase 256 (spelled ds)
under_spelled [] = tt
under_spelled (a ∷ []) = tt
under_spelled (a ∷ b ∷ ds) = (omega (arith, digit_value_below a, digit_value_below b), under_spelled ds)

pub numeral_below : (bs : List ℕ) (k : ℕ) → AllBelowBase 256 bs → length bs ≤ k → numeral bs < 256 ^ k
numeral_below bs k u h =
    let p : 256 ^ length bs ≤ 256 ^ k = pow-le-pow_right (omega arith) h in
    omega (arith, number_lt 256 bs u)

pub length-wide : (w n : ℕ) → length (wide w n) ≡ w
length-wide zero n = refl
length-wide (suc w) n = length_push (wide w (n / 256)) (n % 256) ∙ omega (arith, length-wide w (n / 256))

pub under_wide : (w n : ℕ) → AllBelowBase 256 (wide w n)
under_wide zero n = tt
under_wide (suc w) n = All-push (λ d. d < 256) (wide w (n / 256)) (n % 256) (under_wide w (n / 256)) (omega arith)

pub numeral-wide : (w n : ℕ) → n < 256 ^ w → numeral (wide w n) ≡ n
numeral-wide zero n h = omega arith
numeral-wide (suc w) n h =
    let p : n < 256 ^ w * 256 = rw pow-suc at h in
    number_push 256 (wide w (n / 256)) (n % 256) ∙ omega (arith, numeral-wide w (n / 256) (omega arith))

pub wide-numeral : (w : ℕ) (bs : List ℕ) → AllBelowBase 256 bs → length bs ≡ w → wide w (numeral bs) ≡ bs
wide-numeral zero [] u e = refl
wide-numeral zero (b ∷ bs) u e = absurd (omega arith)
wide-numeral (suc w) bs u e =
    let d = get_or bs w 0 in
    let split : bs ≡ take w bs ++ (d ∷ []) = sym (take_all (w + 1) bs (omega arith)) ∙ take_more bs w 0 (omega arith) in
    let n : numeral bs ≡ numeral (take w bs) * 256 + d = ap numeral split ∙ number_push 256 (take w bs) d in
    let small : d < 256 = All-get_or (λ x. x < 256) bs w 0 (omega arith) u in
    let high : numeral bs / 256 ≡ numeral (take w bs) = omega arith in
    let low : numeral bs % 256 ≡ d = omega arith in
    let front = wide-numeral w (take w bs) (All-take (λ x. x < 256) w bs u) (length-take-le w bs (omega arith)) in
    (λ i. wide w (high i) ++ (low i ∷ [])) ∙ ap (λ l. l ++ (d ∷ [])) front ∙ sym split

pub spelled-hex : (bs : List ℕ) → AllBelowBase 256 bs → spelled (hex bs) ≡ bs
spelled-hex [] u = refl
spelled-hex (b ∷ bs) u =
    let e : digit_value (digit_of (b / 16)) * 16 + digit_value (digit_of (b % 16)) ≡ b =
    omega (arith, digit_value-digit_of (b / 16) (omega (arith, u.0)), digit_value-digit_of (b % 16) (omega arith)) in
    λ i. e i ∷ spelled-hex bs u.1 i

-- digits in pairs are what their bytes are written as
pub hex-spelled : (ds : List ℕ) → AllByRecursion (λ d. is_digit d ≡ true) ds → length ds % 2 ≡ 0 → hex (spelled ds) ≡ ds
hex-spelled [] u e = refl
hex-spelled (a ∷ []) u e = absurd (omega arith)
hex-spelled (a ∷ b ∷ ds) u e =
    let x = digit_value a in
    let y = digit_value b in
    let p : (x * 16 + y) / 16 ≡ x = omega (arith, digit_value_below b) in
    let q : (x * 16 + y) % 16 ≡ y = omega (arith, digit_value_below b) in
    λ i. (ap digit_of p ∙ digit_of-digit_value a u.0) i ∷ (ap digit_of q ∙ digit_of-digit_value b u.1.0) i ∷ hex-spelled ds u.1.1 (omega arith) i
