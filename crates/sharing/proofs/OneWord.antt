-- A group that opens sends no word but zero to zeros: the deals that have one word and no other. Assumes nothing.
--   lone_key      the key of the deal whose word i is x and whose other words are zero
--   lone_dummies  the dummy keys of that deal
use Rattle.std.proofs.Common.{◌≡◌, ℕ, zero, suc, ◌+◌, ◌-◌, ◌*◌, ◌/◌, ◌%◌, ◌<◌, Bool, true, false, cond, eqb, List, length, get_or, sym, refl, ap, ◌∙◌, ap₂, ⊎_elim, arith}
use Rattle.std.proofs.lemmas.Nat.{div-mul-add, mod-mul-add, mod_below}
use Rattle.std.proofs.lemmas.Bool.{cases_eq, eq-eqb, ne_eqb, cond-true, cond-false, cond_both}
use Rattle.field.specs.Codes.{Operations, Laws}
use Rattle.linear.specs.Systems.{Null}
use Rattle.linear.proofs.Scalars.{neg_add, neg_neg}
use Rattle.linear.proofs.Sums.{total, total_cong, total_nil, total_one}
use Rattle.linear.proofs.Coded.{Code, coded, code, code_inj, code_zero, code_neg, code_products, zero_code}
use Rattle.sharing.specs.Scheme.{Plan, Sound, Key, Dummies, Deal, lanes, padded, store, word}
use Rattle.sharing.specs.Secrecy.{Opens}
use Rattle.sharing.specs.Systems.{OnlyZero, opening_matrix, OpensExactly}
use Rattle.sharing.proofs.Casts.{casting, cast_below, code_cast, casting_cong, casting_nil}
use Rattle.linear.proofs.Crossing.{zero_null}
use Rattle.sharing.proofs.Nulls.{zero_of_nil}
use Rattle.sharing.proofs.OneLane.{spelled, key_spelled, spelled-number, dummies_laid, laid-number}
use Rattle.sharing.proofs.Opening.{opens_of_only_zero}
use Rattle.sharing.proofs.Stores.{within, lanes_one, laid, number, alike_of_numbers}
use Rattle.sharing.proofs.Words.{at_first, at_later, dummy_number, first_word, later_word}

abbrev pub lone_key : Operations → (t i : ℕ) → (ℕ → ℕ) → List ℕ
lone_key o t i x = spelled t (λ c. cond (eqb i 0) (x c) (o.neg (x c)))

abbrev pub lone_dummies : (t i : ℕ) → (ℕ → ℕ) → List ℕ
lone_dummies t i x = laid t (lanes t t) (λ e u. cond (eqb (u / t + 1) i) (x (u % t)) 0)

module _ {o : Operations} (laws : Laws o) where
  pub code_cond : (b : Bool) (a : ℕ) → code laws (cond b a 0) ≡ cond b (code laws a) (coded laws).nil
  code_cond true a = refl
  code_cond false a = code_zero laws

module _ {o : Operations} (laws : Laws o) (t i : ℕ) (pos : 0 < t) (hi : i < t) (x : ℕ → ℕ)
    (codes : (c : ℕ) → c < t → x c < o.size) where
  pub lone_key_of : Key o t (lone_key o t i x)
  lone_key_of =
      key_spelled o t (λ c. cond (eqb i 0) (x c) (o.neg (x c)))
      (λ c hc.
      cond_both (eqb i 0) (x c) (o.neg (x c)) (λ a. a < o.size) (λ is. codes c hc) (λ is. laws.neg_code (x c)))

  pub lone_dummies_of : Dummies o t t (lone_dummies t i x)
  lone_dummies_of =
      dummies_laid o t t (λ e u. cond (eqb (u / t + 1) i) (x (u % t)) 0)
      (λ e u he hu.
      cond_both (eqb (u / t + 1) i) (x (u % t)) 0 (λ a. a < o.size) (λ is. codes (u % t) (mod_below u t pos))
      (λ is. zero_code laws))

  -- number c of dummy key k + 1
  lone_dummy : (k e c : ℕ) → k < t - 1 → e < lanes t t → c < t
      → code laws (dummy_number t t (lone_dummies t i x) e (k * t + c)) ≡ cond (eqb (k + 1) i) (code laws (x c)) (coded laws).nil
  lone_dummy k e c hk he hc =
      ap (code laws)
      (laid-number t t (λ e u. cond (eqb (u / t + 1) i) (x (u % t)) 0) e (k * t + c) he (within (t - 1) t k c hk hc)
      ∙ ap₂ (λ k c. cond (eqb (k + 1) i) (x c) 0) (div-mul-add k t c hc) (mod-mul-add k t c hc))
      ∙ code_cond laws (eqb (k + 1) i) (x c)

  -- what the key and the dummy keys add up to in word 0
  lone_sum : (c : ℕ) → c < t
      → (coded laws).add (code laws (cond (eqb i 0) (x c) (o.neg (x c))))
      (total (coded laws) (t - 1) (λ k. cond (eqb (k + 1) i) (code laws (x c)) (coded laws).nil))
      ≡ cond (eqb 0 i) (code laws (x c)) (coded laws).nil
  lone_sum c hc = ⊎_elim first (λ apart. later (omega arith)) (cases_eq i 0)
    where
      f : ℕ → Code o
      f k = cond (eqb (k + 1) i) (code laws (x c)) (coded laws).nil

      first : i ≡ 0
          → (coded laws).add (code laws (cond (eqb i 0) (x c) (o.neg (x c)))) (total (coded laws) (t - 1) f)
          ≡ cond (eqb 0 i) (code laws (x c)) (coded laws).nil
      first is =
          ap₂ (coded laws).add (ap (code laws) (at_first i (x c) (o.neg (x c)) is))
          (total_nil (coded laws) (t - 1) f
          (λ k l. cond-false (eqb (k + 1) i) (code laws (x c)) (coded laws).nil (ne_eqb (k + 1) i (λ e. omega arith))))
          ∙ (coded laws).add_nil (code laws (x c))
          ∙ sym (cond-true (eqb 0 i) (code laws (x c)) (coded laws).nil (eq-eqb 0 i (sym is)))

      later : 0 < i
          → (coded laws).add (code laws (cond (eqb i 0) (x c) (o.neg (x c)))) (total (coded laws) (t - 1) f)
          ≡ cond (eqb 0 i) (code laws (x c)) (coded laws).nil
      later l =
          ap₂ (coded laws).add (ap (code laws) (at_later i (x c) (o.neg (x c)) l) ∙ code_neg laws (x c) (codes c hc))
          (total_one (coded laws) (t - 1) (i - 1) f (omega arith)
          (λ k hk apart.
          cond-false (eqb (k + 1) i) (code laws (x c)) (coded laws).nil (ne_eqb (k + 1) i (λ e. apart (omega arith))))
          ∙ cond-true (eqb (i - 1 + 1) i) (code laws (x c)) (coded laws).nil (eq-eqb (i - 1 + 1) i (omega arith)))
          ∙ neg_add (coded laws) (code laws (x c))
          ∙ sym (cond-false (eqb 0 i) (code laws (x c)) (coded laws).nil (ne_eqb 0 i (λ e. omega arith)))

  -- its words: x at i, and zero elsewhere
  pub lone_word : (h e c : ℕ) → h < t → e < lanes t t → c < t
      → code laws (word o t (lanes t t) (store t t (lone_key o t i x) (lone_dummies t i x)) h e c)
      ≡ cond (eqb h i) (code laws (x c)) (coded laws).nil
  lone_word zero e c hh he hc =
      first_word laws t t pos (lone_key o t i x) (lone_dummies t i x) lone_key_of lone_dummies_of e c he hc
      ∙ ap₂ (coded laws).add
      (ap (code laws) (spelled-number t (λ c. cond (eqb i 0) (x c) (o.neg (x c))) e c pos he hc))
      (total_cong (coded laws) (t - 1) _ _ (λ k hk. lone_dummy k e c hk he hc))
      ∙ lone_sum c hc
  lone_word (suc k) e c hh he hc =
      ap (code laws)
      (later_word laws t t pos (lone_key o t i x) (lone_dummies t i x) lone_key_of lone_dummies_of (suc k) k e c (omega arith))
      ∙ lone_dummy k e c (omega arith) he hc
      ∙ ap (λ n. cond (eqb n i) (code laws (x c)) (coded laws).nil) (omega arith)

module _ {o : Operations} (laws : Laws o) (p : Plan) (g : List ℕ) (sound : Sound o p) (size : length g ≡ p.t) (i : ℕ) (hi : i < p.t) where
  pos : 0 < p.t
  pos = omega (arith, sound.least)

  -- if x is sent to zeros, the cards of the group are zero
  lone_number : (x : ℕ → ℕ) → Null o p.t (opening_matrix p g i) x → (m h e : ℕ) → m < length g → h < p.t → e < lanes p.t p.t
      → number o p (lanes p.t p.t) (store p.t p.t (lone_key o p.t i x) (lone_dummies p.t i x)) g m h e ≡ 0
  lone_number x null m h e hm hh he =
      zero_of_nil laws _ (cast_below laws p.t p.rows _ ((get_or g m 0 + h) % p.n))
      (code_cast laws p.t p.rows _ ((get_or g m 0 + h) % p.n)
      ∙ casting_cong laws p.t p.rows _ _ ((get_or g m 0 + h) % p.n)
      (λ c hc. lone_word laws p.t i pos hi x null.codes h e c hh he hc)
      ∙ ⊎_elim same other (cases_eq h i))
    where
      same : h ≡ i → casting laws p.t p.rows (λ c. cond (eqb h i) (code laws (x c)) (coded laws).nil) ((get_or g m 0 + h) % p.n) ≡ (coded laws).nil
      same is =
          ap₂ (λ b q. casting laws p.t p.rows (λ c. cond b (code laws (x c)) (coded laws).nil) ((get_or g m 0 + q) % p.n))
          (eq-eqb h i is) is
          ∙ sym (code_products laws p.t (opening_matrix p g i m) x)
          ∙ ap (code laws) (null.rows m (omega arith))
          ∙ code_zero laws

      other : (h ≡ i → ⊥) → casting laws p.t p.rows (λ c. cond (eqb h i) (code laws (x c)) (coded laws).nil) ((get_or g m 0 + h) % p.n) ≡ (coded laws).nil
      other apart =
          casting_nil laws p.t p.rows _ ((get_or g m 0 + h) % p.n)
          (λ c hc. cond-false (eqb h i) (code laws (x c)) (coded laws).nil (ne_eqb h i apart))

  lone_deal : (x : ℕ → ℕ) → ((c : ℕ) → c < p.t → x c < o.size) → Deal o p p.t (lone_key o p.t i x) (lone_dummies p.t i x)
  lone_deal x codes =
      record {
        some = pos;
        most = omega (arith, sound.ordered, sound.most);
        key_of = lone_key_of laws p.t i pos hi x codes;
        dummies_of = lone_dummies_of laws p.t i pos hi x codes;
      }

  -- a group that opens sends no word but zero to zeros
  pub only_zero_of_opens : Opens o p g → OnlyZero o p.t (opening_matrix p g i)
  only_zero_of_opens opens x null c hc = ⊎_elim first (λ apart. later (omega arith)) (cases_eq i 0)
    where
      zeros : Null o p.t (opening_matrix p g i) (λ c. 0)
      zeros = zero_null laws p.t (opening_matrix p g i)

      same_key : padded p.t p.t (lone_key o p.t i x) ≡ padded p.t p.t (lone_key o p.t i (λ c. 0))
      same_key =
          opens p.t (lone_key o p.t i x) (lone_dummies p.t i x) (lone_key o p.t i (λ c. 0)) (lone_dummies p.t i (λ c. 0))
          (lone_deal x null.codes) (lone_deal (λ c. 0) zeros.codes)
          (alike_of_numbers o p (lanes p.t p.t) g _ _
          (λ m h e hm hh he. lone_number x null m h e hm hh he ∙ sym (lone_number (λ c. 0) zeros m h e hm hh he)))

      same_number : cond (eqb i 0) (x c) (o.neg (x c)) ≡ cond (eqb i 0) 0 (o.neg 0)
      same_number =
          let lane : 0 < lanes p.t p.t = omega (arith, lanes_one p.t pos) in
          sym (spelled-number p.t (λ c. cond (eqb i 0) (x c) (o.neg (x c))) 0 c pos lane hc)
          ∙ ap (λ xs. get_or xs (c * lanes p.t p.t + 0) 0) same_key
          ∙ spelled-number p.t (λ c. cond (eqb i 0) 0 (o.neg 0)) 0 c pos lane hc

      first : i ≡ 0 → x c ≡ 0
      first is = sym (at_first i (x c) (o.neg (x c)) is) ∙ same_number ∙ at_first i 0 (o.neg 0) is

      later : 0 < i → x c ≡ 0
      later l =
          code_inj laws (x c) 0 (null.codes c hc) (zero_code laws)
          (sym (neg_neg (coded laws) (code laws (x c)))
          ∙ ap (coded laws).neg
          (sym (code_neg laws (x c) (null.codes c hc))
          ∙ ap (code laws) (sym (at_later i (x c) (o.neg (x c)) l) ∙ same_number ∙ at_later i 0 (o.neg 0) l)
          ∙ code_neg laws 0 (zero_code laws))
          ∙ neg_neg (coded laws) (code laws 0))

-- a group of t cards opens exactly if, row by row, its cards send no word but zero to zeros
pub opens_exactly : {o : Operations} → Laws o → OpensExactly o
opens_exactly laws p g sound group =
    (λ opens i hi. only_zero_of_opens laws p g sound group.0 i hi opens, opens_of_only_zero laws p g sound group.0)
