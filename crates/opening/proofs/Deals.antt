-- The cards of a deal: their data one after the other, the words behind them, and the padded key behind the words.
-- Assumes nothing.
use Rattle.std.proofs.Common.{◌≡◌, ℕ, zero, suc, ◌+◌, ◌-◌, ◌*◌, ◌/◌, ◌%◌, ◌<◌, eqb, List, [], ◌∷◌, ◌++◌, length, get_or, sym, refl, ap, ◌∙◌, subst, ap₂, suc-mul, zero-mul, arith}
use Rattle.std.proofs.lemmas.Nat.{div-add-mod', mod_below, div_below}
use Rattle.std.proofs.lemmas.List.FromFn.{length-map-range_with_len, get_or-map-range_with_len}
use Rattle.std.proofs.lemmas.List.{ext_get_or, length-append, get_or_append_left, get_or-append-add}
use Rattle.std.proofs.lemmas.Bool.{cond_both}
use Rattle.field.specs.Codes.{Operations, Laws, minus, sum}
use Rattle.linear.specs.Casting.{cast}
use Rattle.linear.proofs.Coded.{coded, code, code_inj, code_add, code_neg, code_sum, sum_below, sum_cong, zero_code}
use Rattle.linear.proofs.Sums.{total}
use Rattle.sharing.specs.Scheme.{Plan, Codes, Deal, lanes, padded, store, stored, word, card}
use Rattle.sharing.proofs.Casts.{cast_below}
use Rattle.sharing.proofs.Stores.{within, by-lanes, length_card, length-padded, codes_all, codes_padded}
use Rattle.sharing.proofs.Stores.{card_number as number-of-card}
use Rattle.sharing.proofs.Words.{codes_store, first_word, later_word, dummy_number}
use Rattle.sharing.proofs.Words.{key_number as padded-number}
use Rattle.opening.specs.Answers.{data_of}
use Rattle.opening.specs.Words.{Given, key_number, opened}

module _ (o : Operations) (p : Plan) (b : ℕ) (s : List ℕ) where
  pub length_data_of : (cards : List ℕ) → length (data_of o p b s cards) ≡ length cards * (p.t * b)
  length_data_of [] = sym (zero-mul (p.t * b))
  length_data_of (j ∷ cards) =
      length-append (card o p b s j) (data_of o p b s cards)
      ∙ omega (arith, length_card o p b s j, length_data_of cards, suc-mul (length cards) (p.t * b))

  -- number y of the m-th card
  pub data_number : (cards : List ℕ) (m y : ℕ) → m < length cards → y < p.t * b
      → get_or (data_of o p b s cards) (m * (p.t * b) + y) 0 ≡ get_or (card o p b s (get_or cards m 0)) y 0
  data_number [] m y hm hy = absurd (omega arith)
  data_number (j ∷ cards) zero y hm hy =
      ap (λ k. get_or (card o p b s j ++ data_of o p b s cards) k 0) (omega (arith, zero-mul (p.t * b)))
      ∙ get_or_append_left (card o p b s j) (data_of o p b s cards) 0 y (omega (arith, length_card o p b s j))
  data_number (j ∷ cards) (suc m) y hm hy =
      ap (λ k. get_or (card o p b s j ++ data_of o p b s cards) k 0)
      (omega (arith, suc-mul m (p.t * b), length_card o p b s j))
      ∙ get_or-append-add (card o p b s j) (data_of o p b s cards) (m * (p.t * b) + y) 0
      ∙ data_number cards m y (omega arith) hy

  -- number e of row i of the m-th card
  pub data_row : (cards : List ℕ) (m i e : ℕ) → m < length cards → i < p.t → e < b
      → get_or (data_of o p b s cards) (m * (p.t * b) + (i * b + e)) 0
      ≡ cast o p.t p.rows (word o p.t b s i e) ((get_or cards m 0 + i) % p.n)
  data_row cards m i e hm hi he =
      data_number cards m (i * b + e) hm (within p.t b i e hi he)
      ∙ number-of-card o p b s (get_or cards m 0) i e hi he

-- the data are codes
pub data_codes : {o : Operations} → Laws o → (p : Plan) (b : ℕ) (s cards : List ℕ) → Codes o (data_of o p b s cards)
data_codes {o} laws p b s cards y l =
    by-lanes (length cards) (p.t * b) (λ k. get_or (data_of o p b s cards) k 0 < o.size)
    (λ m z hm hz.
    by-lanes p.t b (λ z. get_or (data_of o p b s cards) (m * (p.t * b) + z) 0 < o.size)
    (λ i e hi he.
    subst (λ x. x < o.size) (sym (data_row o p b s cards m i e hm hi he)) (cast_below laws p.t p.rows _ _))
    z hz)
    y (subst (λ k. y < k) (length_data_of o p b s cards) l)

module _ {o : Operations} (laws : Laws o) (p : Plan) (L : ℕ) (key dummies : List ℕ) (pos : 0 < p.t) (deal : Deal o p L key dummies) where
  -- the deal's words give the cards their data
  pub given_of_deal : (cards : List ℕ) → length cards ≡ p.t
      → Given o p (lanes p.t L) cards (data_of o p (lanes p.t L) (store p.t L key dummies) cards)
      (word o p.t (lanes p.t L) (store p.t L key dummies))
  given_of_deal cards count =
      record {
        codes = λ i e c hi he hc.
            cond_both (eqb i 0) (sum o p.t (λ k. stored p.t (lanes p.t L) (store p.t L key dummies) k c e))
            (stored p.t (lanes p.t L) (store p.t L key dummies) i c e) (λ x. x < o.size)
            (λ is. sum_below laws p.t _)
            (λ is.
            codes_store laws p.t L pos key dummies deal.key_of deal.dummies_of ((i * p.t + c) * lanes p.t L + e));
        numbers = λ m i e hm hi he.
            sym (data_row o p (lanes p.t L) (store p.t L key dummies) cards m i e (subst (λ k. m < k) (sym count) hm) hi he);
      }

  -- word 0 minus the other words is the key's word
  key_of_words : (e c : ℕ) → e < lanes p.t L → c < p.t
      → key_number o p.t (word o p.t (lanes p.t L) (store p.t L key dummies)) e c ≡ padded-number p.t L key e c
  key_of_words e c he hc =
      code_inj laws _ _ (laws.add_code _ _)
      (codes_padded o (zero_code laws) p.t L key deal.key_of.1 (c * lanes p.t L + e))
      (code_add laws (w 0) (o.neg others) (sum_below laws p.t _) (laws.neg_code others)
      ∙ ap₂ (coded laws).add
      (first_word laws p.t L pos key dummies deal.key_of deal.dummies_of e c he hc)
      (code_neg laws others (sum_below laws (p.t - 1) _) ∙ ap (coded laws).neg sum_others)
      ∙ (coded laws).add_assoc _ _ _
      ∙ ap ((coded laws).add (code laws (padded-number p.t L key e c))) ((coded laws).add_neg _)
      ∙ (coded laws).add_nil _)
    where
      w : ℕ → ℕ
      w i = word o p.t (lanes p.t L) (store p.t L key dummies) i e c

      others : ℕ
      others = sum o (p.t - 1) (λ i. w (i + 1))

      later : (i : ℕ) → w (i + 1) ≡ dummy_number p.t L dummies e (i * p.t + c)
      later i = later_word laws p.t L pos key dummies deal.key_of deal.dummies_of (i + 1) i e c refl

      sum_others : code laws others ≡ total (coded laws) (p.t - 1) (λ k. code laws (dummy_number p.t L dummies e (k * p.t + c)))
      sum_others =
          ap (code laws) (sum_cong o (p.t - 1) _ _ (λ i l. later i))
          ∙ code_sum laws (p.t - 1) (λ k. dummy_number p.t L dummies e (k * p.t + c))
          (λ i l.
          codes_all o (zero_code laws) dummies deal.dummies_of.1 ((i * p.t + c) * lanes p.t L + e))

  -- words that agree with the deal's open to its padded key
  pub opened_of_deal : (x : (i e c : ℕ) → ℕ)
      → ((i e c : ℕ) → i < p.t → e < lanes p.t L → c < p.t
      → word o p.t (lanes p.t L) (store p.t L key dummies) i e c ≡ x i e c)
      → 0 < lanes p.t L
      → opened o p.t (lanes p.t L) x ≡ padded p.t L key
  opened_of_deal x same some =
      ext_get_or 0 (opened o p.t b x) (padded p.t L key)
      (size ∙ sym (length-padded p.t L key pos deal.key_of.0))
      (λ y l.
      let inside : y < p.t * b = subst (λ k. y < k) size l in
      let column = mod_below y b some in
      let piece = div_below y b p.t some inside in
      get_or-map-range_with_len (λ y. key_number o p.t x (y % b) (y / b)) 0 (p.t * b) y y 0 inside (omega arith)
      ∙ sym
      (ap₂ (minus o) (same 0 (y % b) (y / b) pos column piece)
      (sum_cong o (p.t - 1) _ _ (λ i h. same (i + 1) (y % b) (y / b) (omega arith) column piece)))
      ∙ key_of_words (y % b) (y / b) column piece
      ∙ ap (λ k. get_or (padded p.t L key) k 0) (div-add-mod' y b))
    where
      b : ℕ
      b = lanes p.t L

      size : length (opened o p.t b x) ≡ p.t * b
      size = length-map-range_with_len (λ y. key_number o p.t x (y % b) (y / b)) 0 (p.t * b)
