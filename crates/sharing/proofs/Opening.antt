-- A group of t cards opens exactly if, row by row, its cards send no word but zero to zeros. Assumes nothing.
use Rattle.std.proofs.Common.{◌≡◌, ℕ, ◌+◌, ◌-◌, ◌*◌, ◌%◌, ◌<◌, List, length, get_or, sym, refl, ap, ◌∙◌, ap₂, arith}
use Rattle.field.specs.Codes.{Operations, Laws}
use Rattle.linear.specs.Casting.{cast}
use Rattle.linear.specs.Systems.{times}
use Rattle.linear.proofs.Scalars.{minus, minus_nil, add_cancel}
use Rattle.linear.proofs.Sums.{total, total_cong}
use Rattle.linear.proofs.Coded.{Code, code_path, coded, code, code_is, code_inj, code_products, sum_below, zero_code}
use Rattle.sharing.specs.Scheme.{Plan, Sound, lanes, padded, store, word}
use Rattle.sharing.specs.Secrecy.{Opens}
use Rattle.sharing.specs.Systems.{OnlyZero, opening_matrix}
use Rattle.sharing.proofs.Casts.{code_cast, casting_cong, casting_minus}
use Rattle.sharing.proofs.Nulls.{zero_of_nil}
use Rattle.sharing.proofs.Stores.{same_by_lanes, length-padded, codes_padded, numbers_of_alike}
use Rattle.sharing.proofs.Words.{key_number, dummy_number, first_word, later_word}

module _ {o : Operations} (laws : Laws o) where
  -- words that give row i of the group's cards the same numbers are equal
  pub same_word : (p : Plan) (g : List ℕ) (i : ℕ) → length g ≡ p.t → OnlyZero o p.t (opening_matrix p g i) → (w w' : ℕ → ℕ)
      → ((m : ℕ) → m < length g
      → cast o p.t p.rows w ((get_or g m 0 + i) % p.n) ≡ cast o p.t p.rows w' ((get_or g m 0 + i) % p.n))
      → (c : ℕ) → c < p.t → code laws (w c) ≡ code laws (w' c)
  unfolding coded
  same_word p g i size only w w' same c hc =
      minus_nil (coded laws) (code laws (w c)) (code laws (w' c))
      (code_path o _ _ (only (λ c. (d c).0) (record { codes = λ c l. (d c).1; rows = rows }) c hc))
    where
      d : ℕ → Code o
      d c = minus (coded laws) (code laws (w c)) (code laws (w' c))

      rows : (m : ℕ) → m < p.t → times o p.t (opening_matrix p g i) (λ c. (d c).0) m ≡ 0
      rows m l =
          let q : ℕ = (get_or g m 0 + i) % p.n in
          let held : m < length g = omega arith in
          zero_of_nil laws (times o p.t (opening_matrix p g i) (λ c. (d c).0) m) (sum_below laws p.t _)
          (code_products laws p.t (opening_matrix p g i m) (λ c. (d c).0)
          ∙ casting_cong laws p.t p.rows (λ c. code laws (d c).0) d q (λ c l. code_is laws (d c))
          ∙ casting_minus laws p.t p.rows (λ c. code laws (w c)) (λ c. code laws (w' c)) q
          ∙ ap₂ (minus (coded laws))
          (sym (code_cast laws p.t p.rows w q) ∙ ap (code laws) (same m held))
          (sym (code_cast laws p.t p.rows w' q))
          ∙ (coded laws).add_neg (code laws (cast o p.t p.rows w' q)))

  -- where no word but zero is sent to zeros, the group opens
  pub opens_of_only_zero : (p : Plan) (g : List ℕ) → Sound o p → length g ≡ p.t
      → ((i : ℕ) → i < p.t → OnlyZero o p.t (opening_matrix p g i)) → Opens o p g
  opens_of_only_zero p g sound size only L key dummies key' dummies' deal deal' alike =
      same_by_lanes t b (padded t L key) (padded t L key')
      (length-padded t L key pos deal.key_of.0) (length-padded t L key' pos deal'.key_of.0)
      (λ c e hc he.
      code_inj laws (key_number t L key e c) (key_number t L key' e c)
      (codes_padded o (zero_code laws) t L key deal.key_of.1 (c * b + e))
      (codes_padded o (zero_code laws) t L key' deal'.key_of.1 (c * b + e))
      (keys c e hc he))
    where
      t : ℕ
      t = p.t

      b : ℕ
      b = lanes t L

      pos : 0 < t
      pos = omega (arith, sound.least)

      words : (i e c : ℕ) → i < t → e < b → c < t
          → code laws (word o t b (store t L key dummies) i e c) ≡ code laws (word o t b (store t L key' dummies') i e c)
      words i e c hi he hc =
          same_word p g i size (only i hi) (word o t b (store t L key dummies) i e) (word o t b (store t L key' dummies') i e)
          (λ m hm. numbers_of_alike o p b g (store t L key dummies) (store t L key' dummies') alike m i e hm hi he) c hc

      dummy : (k e c : ℕ) → k < t - 1 → e < b → c < t
          → code laws (dummy_number t L dummies e (k * t + c)) ≡ code laws (dummy_number t L dummies' e (k * t + c))
      dummy k e c hk he hc =
          sym (ap (code laws) (later_word laws t L pos key dummies deal.key_of deal.dummies_of (k + 1) k e c refl))
          ∙ words (k + 1) e c (omega arith) he hc
          ∙ ap (code laws) (later_word laws t L pos key' dummies' deal'.key_of deal'.dummies_of (k + 1) k e c refl)

      keys : (c e : ℕ) → c < t → e < b → code laws (key_number t L key e c) ≡ code laws (key_number t L key' e c)
      keys c e hc he =
          add_cancel (coded laws) _ _ (total (coded laws) (t - 1) (λ k. code laws (dummy_number t L dummies e (k * t + c))))
          (sym (first_word laws t L pos key dummies deal.key_of deal.dummies_of e c he hc)
          ∙ words 0 e c pos he hc
          ∙ first_word laws t L pos key' dummies' deal'.key_of deal'.dummies_of e c he hc
          ∙ ap ((coded laws).add (code laws (key_number t L key' e c)))
          (sym (total_cong (coded laws) (t - 1) _ _ (λ k hk. dummy k e c hk he hc))))
