-- From solved or singular systems to the answer: the group opens and the words are the only ones, or it does not open.
-- Assumes nothing.
use Rattle.std.proofs.Common.{◌≡◌, ℕ, ◌+◌, ◌-◌, ◌*◌, ◌/◌, ◌%◌, ◌<◌, true, false, cond, eqb, List, length, take, is_ok, Ok, Err, Result, OnOk, OnErr, sym, ap, ◌∙◌, subst, arith}
use Rattle.std.proofs.lemmas.Nat.{mod_below, div_below}
use Rattle.std.proofs.lemmas.List.FromFn.{length-map-range_with_len, get_or-map-range_with_len}
use Rattle.std.proofs.lemmas.List.{ext_get_or}
use Rattle.std.proofs.lemmas.Bool.{cond_both}
use Rattle.field.specs.Codes.{Operations, Laws, minus, sum}
use Rattle.field.specs.Refusals.{refused, foremost}
use Rattle.field.specs.declared.refusal.Refusal.{Refusal}
use Rattle.linear.specs.Systems.{Solves, OneSolution, Singular}
use Rattle.linear.proofs.Crossing.{regular_null}
use Rattle.linear.proofs.Coded.{coded, code, code_inj, code_add, code_neg, code_sum, sum_below, zero_code}
use Rattle.linear.proofs.Sums.{total_cong, total_neg}
use Rattle.sharing.specs.Groups.{Group, Holds}
use Rattle.sharing.specs.Scheme.{Plan, lanes}
use Rattle.sharing.specs.Secrecy.{Opens}
use Rattle.sharing.specs.Systems.{opening_matrix}
use Rattle.sharing.proofs.OneWord.{only_zero_of_opens}
use Rattle.sharing.proofs.Opening.{opens_of_only_zero}
use Rattle.sharing.proofs.Stores.{codes_all}
use Rattle.sharing.proofs.Words.{at_later, total_first}
use Rattle.opening.specs.Answers.{GroupOf, padding, Opened}
use Rattle.opening.specs.Quorums.{Gathered, Fits, Summed, signed}
use Rattle.opening.specs.Words.{Given, key_number, opened, card_number}
use Rattle.opening.proofs.Gathering.{group, group_is, group_holds, holds_group}

-- what holds of a grant, and of a refusal
pub on_ok : {T E P : Type 0} (r : Result T E) → is_ok r ≡ true → OnOk r P → P
on_ok (Ok x) is holds = holds
on_ok (Err e) is holds = absurd cc

pub on_err : {T E P : Type 0} (r : Result T E) → is_ok r ≡ false → OnErr r P → P
on_err (Ok x) is holds = absurd cc
on_err (Err e) is holds = holds

-- cards that hold what another list holds open what that list opens
pub opens_more : (o : Operations) (p : Plan) (g h : List ℕ) → ((j : ℕ) → Holds g j → Holds h j) → Opens o p g → Opens o p h
opens_more o p g h more opens L key dummies key' dummies' deal deal' alike =
    opens L key dummies key' dummies' deal deal' (λ j held. alike j (more j held))

module _ {o : Operations} (laws : Laws o) where
  -- word 0 plus the opposites of the others is word 0 minus their sum
  pub signed_sum : (t : ℕ) (x : ℕ → ℕ) → 0 < t → ((i : ℕ) → i < t → x i < o.size)
      → sum o t (λ i. signed o i (x i)) ≡ minus o (x 0) (sum o (t - 1) (λ i. x (i + 1)))
  signed_sum t x pos codes =
      code_inj laws _ _ (sum_below laws t _) (laws.add_code (x 0) _)
      (code_sum laws t (λ i. signed o i (x i)) each
      ∙ total_first (coded laws) t (λ i. code laws (signed o i (x i))) pos
      ∙ ap ((coded laws).add (code laws (x 0)))
      (total_cong (coded laws) (t - 1) _ _ (λ i l. later i (omega arith))
      ∙ total_neg (coded laws) (t - 1) (λ i. code laws (x (i + 1)))
      ∙ ap (coded laws).neg (sym (code_sum laws (t - 1) (λ i. x (i + 1)) (λ i l. codes (i + 1) (omega arith))))
      ∙ sym (code_neg laws (sum o (t - 1) (λ i. x (i + 1))) (sum_below laws (t - 1) _)))
      ∙ sym (code_add laws (x 0) (o.neg (sum o (t - 1) (λ i. x (i + 1)))) (codes 0 pos) (laws.neg_code _)))
    where
      each : (i : ℕ) → i < t → signed o i (x i) < o.size
      each i l = cond_both (eqb i 0) (x i) (o.neg (x i)) (λ a. a < o.size) (λ is. codes i l) (λ is. laws.neg_code (x i))

      later : (i : ℕ) → i + 1 < t → code laws (signed o (1 + i) (x (1 + i))) ≡ (coded laws).neg (code laws (x (i + 1)))
      later i l =
          ap (code laws) (at_later (1 + i) (x (1 + i)) (o.neg (x (1 + i))) (omega arith))
          ∙ code_neg laws (x (1 + i)) (codes (1 + i) (omega arith))
          ∙ ap (λ k. (coded laws).neg (code laws (x k))) (omega arith)

module _ {o : Operations} (laws : Laws o) (q : Gathered) (fits : Fits o q) where
  pos : 0 < q.plan.t
  pos = omega (arith, fits.sound.least)

  pub group_of : GroupOf q.plan q.numbers (group q.plan.n q.numbers)
  group_of =
      record {
        is_group =
            subst (λ k. Group q.plan.n k (group q.plan.n q.numbers)) fits.count
            (group_is q.plan.n q.numbers fits.below fits.different);
        members = λ j.
            (group_holds q.plan.n q.numbers fits.below fits.different j, holds_group q.plan.n q.numbers fits.below fits.different j);
      }

  -- a singular system shuts the group
  pub shut_of_singular : (i : ℕ) → i < q.plan.t → Singular o q.plan.t (opening_matrix q.plan q.numbers i)
      → Opens o q.plan (group q.plan.n q.numbers) → ⊥
  shut_of_singular i hi singular opens =
      singular.nonzero
      (only_zero_of_opens laws q.plan q.numbers fits.sound fits.count i hi
      (opens_more o q.plan (group q.plan.n q.numbers) q.numbers (λ j. (group_of.members j).0) opens)
      singular.vector singular.null singular.place singular.within)

  -- solved systems open it
  pub opens_of_summed : (sums : List ℕ) → Summed o q q.plan.t sums → Opens o q.plan (group q.plan.n q.numbers)
  opens_of_summed sums summed =
      opens_more o q.plan q.numbers (group q.plan.n q.numbers) (λ j. (group_of.members j).1)
      (opens_of_only_zero laws q.plan q.numbers fits.sound fits.count
      (λ i hi. regular_null laws q.plan.t (opening_matrix q.plan q.numbers i) (summed.regular i hi)))

  module _ (sums : List ℕ) (summed : Summed o q q.plan.t sums) where
    -- the solutions are words that give the cards their data
    pub given_of_summed : Given o q.plan q.lanes q.numbers q.«data» summed.words
    given_of_summed =
        record {
          codes = λ i e c hi he hc. (summed.solved i e hi he).codes c hc;
          numbers = λ m i e hm hi he. (summed.solved i e hi he).rows m hm;
        }

    -- and the only ones
    pub only_of_summed : (x : (i e c : ℕ) → ℕ) → Given o q.plan q.lanes q.numbers q.«data» x
        → (i e c : ℕ) → i < q.plan.t → e < q.lanes → c < q.plan.t → x i e c ≡ summed.words i e c
    only_of_summed x given i e c hi he hc =
        one.only (x i e) solves c hc ∙ sym (one.only (summed.words i e) (summed.solved i e hi he) c hc)
      where
        right : ℕ → ℕ
        right m = card_number q.plan.t q.lanes q.«data» m i e

        one : OneSolution o q.plan.t (opening_matrix q.plan q.numbers i) right
        one =
            summed.regular i hi right
            (λ m hm.
            codes_all o (zero_code laws) q.«data» fits.codes (m * (q.plan.t * q.lanes) + (i * q.lanes + e)))

        solves : Solves o q.plan.t (opening_matrix q.plan q.numbers i) right (x i e)
        solves = record { codes = λ c h. given.codes i e c hi he h; rows = λ m hm. given.numbers m i e hm hi he }

    -- what has been summed is the padded key
    pub opened_of_summed : length sums ≡ q.plan.t * q.lanes → sums ≡ opened o q.plan.t q.lanes summed.words
    opened_of_summed long =
        ext_get_or 0 sums (opened o q.plan.t q.lanes summed.words)
        (long
        ∙ sym (length-map-range_with_len (λ y. key_number o q.plan.t summed.words (y % q.lanes) (y / q.lanes)) 0 (q.plan.t * q.lanes)))
        (λ y l.
        let inside : y < q.plan.t * q.lanes = omega arith in
        let some : 0 < q.lanes = fits.some in
        summed.added y inside
        ∙ signed_sum laws q.plan.t (λ i. summed.words i (y % q.lanes) (y / q.lanes)) pos
        (λ i hi.
        (summed.solved i (y % q.lanes) hi (mod_below y q.lanes some)).codes (y / q.lanes)
        (div_below y q.lanes q.plan.t some inside))
        ∙ sym
        (get_or-map-range_with_len (λ y. key_number o q.plan.t summed.words (y % q.lanes) (y / q.lanes)) 0 (q.plan.t * q.lanes) y y 0
        inside (omega arith)))

    module _ (L : ℕ) (same : q.lanes ≡ lanes q.plan.t L) where
      -- the answer, once the key has been handed over or its padding refused
      pub opened_answer : {T : Type 0} (before after : List ℕ) (r : Result T Refusal) → length sums ≡ q.plan.t * q.lanes
          → refused r ≡ foremost (padding L sums) → after ≡ cond (is_ok r) (take L sums) before
          → Opened o q.plan q.numbers q.«data» L before after r
      opened_answer before after r long refusal place =
          record {
            group = group q.plan.n q.numbers;
            of_cards = group_of;
            opens = opens_of_summed sums summed;
            words = summed.words;
            given = subst (λ b. Given o q.plan b q.numbers q.«data» summed.words) same given_of_summed;
            only =
                subst
                (λ b.
                (x : (i e c : ℕ) → ℕ) → Given o q.plan b q.numbers q.«data» x
                → (i e c : ℕ) → i < q.plan.t → e < b → c < q.plan.t → x i e c ≡ summed.words i e c)
                same only_of_summed;
            refusal = refusal ∙ ap (λ key. foremost (padding L key)) key;
            place = place ∙ ap (λ key. cond (is_ok r) (take L key) before) key;
          }
        where
          key : sums ≡ opened o q.plan.t (lanes q.plan.t L) summed.words
          key = opened_of_summed long ∙ ap (λ b. opened o q.plan.t b summed.words) same
