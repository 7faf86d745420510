-- The words of a deal over the field's numbers: what the key adds to them, and what the dummy keys add. Assumes nothing.
--   key_number     number c of the key's word in lane e
--   dummy_number   unknown u = k × t + c of lane e: number c of dummy key k + 1
--   key_part       what the key adds to word i: itself to word 0
--   dummy_part     what the dummy keys add to word i: all of them to word 0, dummy key i to word i
use Rattle.std.proofs.Common.{◌≡◌, ℕ, zero, suc, ◌+◌, ◌-◌, ◌*◌, ◌<◌, cond, eqb, List, get_or, sym, ap, ◌∙◌, ap₂, arith}
use Rattle.std.proofs.lemmas.Bool.{eq-eqb, ne_eqb, cond-true, cond-false}
use Rattle.field.specs.Codes.{Operations, Laws}
use Rattle.linear.proofs.Scalars.{Scalars, nil_add}
use Rattle.linear.proofs.Sums.{total, total_more, total_none, total_cong, total_split}
use Rattle.linear.proofs.Coded.{coded, code, code_sum, zero_code}
use Rattle.sharing.specs.Scheme.{Key, Dummies, lanes, padded, store, stored, word}
use Rattle.sharing.proofs.Stores.{codes_all, codes_append, codes_padded, stored_key, stored_dummy}

-- what stands under a choice between row 0 and the others
pub at_first : {A : Type 0} (i : ℕ) (x y : A) → i ≡ 0 → cond (eqb i 0) x y ≡ x
at_first i x y is = cond-true (eqb i 0) x y (eq-eqb i 0 is)

pub at_later : {A : Type 0} (i : ℕ) (x y : A) → 0 < i → cond (eqb i 0) x y ≡ y
at_later i x y later = cond-false (eqb i 0) x y (ne_eqb i 0 (λ e. omega arith))

abbrev pub key_number : (t L : ℕ) → List ℕ → (e c : ℕ) → ℕ
key_number t L key e c = get_or (padded t L key) (c * lanes t L + e) 0

abbrev pub dummy_number : (t L : ℕ) → List ℕ → (e u : ℕ) → ℕ
dummy_number t L dummies e u = get_or dummies (u * lanes t L + e) 0

module _ {K : Type 0} (F : Scalars K) where
  abbrev pub key_part : (ℕ → K) → (i c : ℕ) → K
  key_part x i c = cond (eqb i 0) (x c) F.nil

  abbrev pub dummy_part : (t : ℕ) → (ℕ → K) → (i c : ℕ) → K
  dummy_part t x i c = cond (eqb i 0) (total F (t - 1) (λ k. x (k * t + c))) (x ((i - 1) * t + c))

  -- the first term of a sum, and the others
  pub total_first : (k : ℕ) (f : ℕ → K) → 0 < k → total F k f ≡ F.add (f 0) (total F (k - 1) (λ i. f (1 + i)))
  total_first k f pos =
      ap (λ n. total F n f) (omega arith)
      ∙ total_split F 1 (k - 1) f
      ∙ ap (λ x. F.add x (total F (k - 1) (λ i. f (1 + i))))
      (total_more F 0 f ∙ ap (λ x. F.add x (f 0)) (total_none F f) ∙ nil_add F (f 0))

module _ {o : Operations} (laws : Laws o) (t L : ℕ) (pos : 0 < t) (key dummies : List ℕ) (key_of : Key o L key)
    (dummies_of : Dummies o t L dummies) where
  pub codes_store : (i : ℕ) → get_or (store t L key dummies) i 0 < o.size
  codes_store =
      codes_append o (padded t L key) dummies (codes_padded o (zero_code laws) t L key key_of.1)
      (codes_all o (zero_code laws) dummies dummies_of.1)

  -- word 0 is the key's word plus all dummy words
  pub first_word : (e c : ℕ) → e < lanes t L → c < t
      → code laws (word o t (lanes t L) (store t L key dummies) 0 e c)
      ≡ (coded laws).add (code laws (key_number t L key e c))
      (total (coded laws) (t - 1) (λ k. code laws (dummy_number t L dummies e (k * t + c))))
  first_word e c he hc =
      code_sum laws t (λ k. stored t (lanes t L) (store t L key dummies) k c e) (λ k l. codes_store ((k * t + c) * lanes t L + e))
      ∙ total_first (coded laws) t (λ k. code laws (stored t (lanes t L) (store t L key dummies) k c e)) pos
      ∙ ap₂ (coded laws).add
      (ap (code laws) (stored_key t L key dummies pos key_of.0 c e hc he))
      (total_cong (coded laws) (t - 1) _ _
      (λ k l. ap (code laws) (stored_dummy t L key dummies pos key_of.0 (1 + k) k c e (omega arith))))

  -- word i, i from 1, is that of dummy key i
  pub later_word : (i k e c : ℕ) → i ≡ k + 1
      → word o t (lanes t L) (store t L key dummies) i e c ≡ dummy_number t L dummies e (k * t + c)
  later_word i k e c is =
      at_later i _ _ (omega arith) ∙ stored_dummy t L key dummies pos key_of.0 i k c e is

  -- a word is what the key adds plus what the dummy keys add
  pub code_word : (i e c : ℕ) → e < lanes t L → c < t
      → code laws (word o t (lanes t L) (store t L key dummies) i e c)
      ≡ (coded laws).add (key_part (coded laws) (λ c. code laws (key_number t L key e c)) i c)
      (dummy_part (coded laws) t (λ u. code laws (dummy_number t L dummies e u)) i c)
  code_word zero e c he hc = first_word e c he hc
  code_word (suc k) e c he hc =
      ap (code laws) (later_word (suc k) (suc k - 1) e c (omega arith))
      ∙ sym (nil_add (coded laws) (code laws (dummy_number t L dummies e ((suc k - 1) * t + c))))
      ∙ sym (ap₂ (coded laws).add (at_later (suc k) _ _ (omega arith)) (at_later (suc k) _ _ (omega arith)))
