-- The cards of a group in one lane are what the key gives plus the lane's dummy numbers under the hiding matrix. Assumes nothing.
--   key_cast   what the key alone gives to row i of the group's m-th card
use Rattle.std.proofs.Common.{◌≡◌, ℕ, ◌+◌, ◌-◌, ◌*◌, ◌/◌, ◌%◌, ◌<◌, ◌||◌, eqb, List, get_or, sym, ap, ◌∙◌, ap₂, ⊎_elim, arith}
use Rattle.std.proofs.lemmas.Nat.{div-mul-add, mod-mul-add}
use Rattle.std.proofs.lemmas.Bool.{cases_eq, eq-eqb, ne_eqb, cond-true, cond-false, or_left, or_right, or_from}
use Rattle.field.specs.Codes.{Operations, Laws}
use Rattle.linear.specs.Systems.{times}
use Rattle.linear.proofs.Scalars.{nil_mul}
use Rattle.linear.proofs.Sums.{total, total_cong, total_nil, total_one, total_mul, total_exchange}
use Rattle.linear.proofs.Coded.{Code, coded, code, code_zero, code_products}
use Rattle.sharing.specs.Scheme.{Plan, Key, Dummies, lanes, store}
use Rattle.sharing.specs.Systems.{opening_matrix, hiding_entry, lane_size, hiding_matrix}
use Rattle.sharing.proofs.Casts.{total_grid, casting, code_cast, casting_cong, casting_add}
use Rattle.sharing.proofs.Stores.{number}
use Rattle.sharing.proofs.Words.{at_first, at_later, key_number, dummy_number, key_part, dummy_part, code_word}

-- the entry of equation m × t + i at unknown k × t + c
pub matrix_entry : (p : Plan) (g : List ℕ) (m i k c : ℕ) → i < p.t → c < p.t
    → hiding_matrix p g (m * p.t + i) (k * p.t + c) ≡ hiding_entry p g m i k c
matrix_entry p g m i k c hi hc =
    ap₂ (λ m i. hiding_entry p g m i ((k * p.t + c) / p.t) ((k * p.t + c) % p.t)) (div-mul-add m p.t i hi)
    (mod-mul-add m p.t i hi)
    ∙ ap₂ (λ k c. hiding_entry p g m i k c) (div-mul-add k p.t c hc) (mod-mul-add k p.t c hc)

module _ {o : Operations} (laws : Laws o) (p : Plan) (g : List ℕ) (m i : ℕ) (hi : i < p.t) (y : ℕ → Code o) where
  -- one term of the equation
  term : ℕ → ℕ → Code o
  term k c = (coded laws).mul (code laws (hiding_entry p g m i k c)) (y (k * p.t + c))

  -- row 0 has every dummy key
  terms_first : i ≡ 0
      → total (coded laws) (p.t - 1) (λ k. total (coded laws) p.t (λ c. term k c))
      ≡ casting laws p.t p.rows (dummy_part (coded laws) p.t y i) ((get_or g m 0 + i) % p.n)
  unfolding term
  terms_first is =
      total_exchange (coded laws) (p.t - 1) p.t term
      ∙ total_cong (coded laws) p.t _ _
      (λ c l.
      total_cong (coded laws) (p.t - 1) _ _
      (λ k l.
      ap (λ a. (coded laws).mul (code laws a) (y (k * p.t + c)))
      (cond-true (eqb i 0 || eqb i (k + 1)) (opening_matrix p g i m c) 0
      (or_left (eqb i 0) (eqb i (k + 1)) (eq-eqb i 0 is))))
      ∙ total_mul (coded laws) (p.t - 1) (code laws (opening_matrix p g i m c)) (λ k. y (k * p.t + c))
      ∙ ap ((coded laws).mul (code laws (opening_matrix p g i m c))) (sym (at_first i _ _ is)))

  -- row i, i from 1, has dummy key i alone
  terms_later : 0 < i
      → total (coded laws) (p.t - 1) (λ k. total (coded laws) p.t (λ c. term k c))
      ≡ casting laws p.t p.rows (dummy_part (coded laws) p.t y i) ((get_or g m 0 + i) % p.n)
  unfolding term
  terms_later l =
      total_one (coded laws) (p.t - 1) (i - 1) (λ k. total (coded laws) p.t (λ c. term k c)) (omega arith)
      (λ k hk apart.
      total_nil (coded laws) p.t (λ c. term k c)
      (λ c hc.
      ap (λ a. (coded laws).mul (code laws a) (y (k * p.t + c)))
      (cond-false (eqb i 0 || eqb i (k + 1)) (opening_matrix p g i m c) 0
      (or_from (eqb i 0) (eqb i (k + 1)) (ne_eqb i 0 (λ e. omega arith)) (ne_eqb i (k + 1) (λ e. apart (omega arith)))))
      ∙ ap (λ z. (coded laws).mul z (y (k * p.t + c))) (code_zero laws)
      ∙ nil_mul (coded laws) (y (k * p.t + c))))
      ∙ total_cong (coded laws) p.t _ _
      (λ c hc.
      ap₂ (λ a z. (coded laws).mul (code laws a) z)
      (cond-true (eqb i 0 || eqb i (i - 1 + 1)) (opening_matrix p g i m c) 0
      (or_right (eqb i 0) (eqb i (i - 1 + 1)) (eq-eqb i (i - 1 + 1) (omega arith))))
      (sym (at_later i _ _ l)))

module _ {o : Operations} (laws : Laws o) (p : Plan) (g : List ℕ) where
  -- equation m × t + i is row i of the group's m-th card under the dummy words alone
  pub code_times : (x : ℕ → ℕ) (m i : ℕ) → i < p.t
      → code laws (times o (lane_size p) (hiding_matrix p g) x (m * p.t + i))
      ≡ casting laws p.t p.rows (dummy_part (coded laws) p.t (λ u. code laws (x u)) i) ((get_or g m 0 + i) % p.n)
  unfolding term
  code_times x m i hi =
      code_products laws (lane_size p) (hiding_matrix p g (m * p.t + i)) x
      ∙ total_grid (coded laws) (p.t - 1) p.t _
      ∙ total_cong (coded laws) (p.t - 1) _ _
      (λ k hk.
      total_cong (coded laws) p.t _ _
      (λ c hc. ap (λ a. (coded laws).mul (code laws a) (code laws (x (k * p.t + c)))) (matrix_entry p g m i k c hi hc)))
      ∙ ⊎_elim (terms_first laws p g m i hi (λ u. code laws (x u)))
      (λ apart. terms_later laws p g m i hi (λ u. code laws (x u)) (omega arith)) (cases_eq i 0)

  abbrev pub key_cast : (L : ℕ) → List ℕ → (m i e : ℕ) → Code o
  key_cast L key m i e =
      casting laws p.t p.rows (key_part (coded laws) (λ c. code laws (key_number p.t L key e c)) i)
      ((get_or g m 0 + i) % p.n)

  -- a number of a card is what the key gives plus the equation's value at the dummy numbers
  pub code_number : (L : ℕ) (key dummies : List ℕ) → 0 < p.t → Key o L key → Dummies o p.t L dummies
      → (m i e : ℕ) → i < p.t → e < lanes p.t L
      → code laws (number o p (lanes p.t L) (store p.t L key dummies) g m i e)
      ≡ (coded laws).add (key_cast L key m i e)
      (code laws (times o (lane_size p) (hiding_matrix p g) (dummy_number p.t L dummies e) (m * p.t + i)))
  code_number L key dummies pos key_of dummies_of m i e hi he =
      code_cast laws p.t p.rows _ ((get_or g m 0 + i) % p.n)
      ∙ casting_cong laws p.t p.rows _ _ ((get_or g m 0 + i) % p.n)
      (λ c hc. code_word laws p.t L pos key dummies key_of dummies_of i e c he hc)
      ∙ casting_add laws p.t p.rows _ _ ((get_or g m 0 + i) % p.n)
      ∙ ap ((coded laws).add (key_cast L key m i e)) (sym (code_times (dummy_number p.t L dummies e) m i hi))
