-- What Open answers to the cards that were worked out. Assumes nothing.
use Rattle.std.proofs.Common.{◌≡◌, ℕ, ◌+◌, ◌*◌, ◌%◌, ◌<◌, Bool, true, cond, ◌&&◌, eqb, ltb, List, [], ◌∷◌, map, length, get_or, take, is_ok, None, Ok, Err, Result, sym, refl, ◌∙◌, subst, inr, arith}
use Rattle.std.specs.List.{AllByRecursion}
use Rattle.std.proofs.lemmas.Bool.{and_parts, eqb-true, ltb-true}
use Rattle.field.specs.Codes.{Operations, Laws, first, sum}
use Rattle.field.specs.Known.{operations}
use Rattle.field.specs.Polynomials.{times, reduce}
use Rattle.field.specs.Refusals.{foremost, refused}
use Rattle.field.specs.declared.refusal.Refusal.{Refusal}
use Rattle.field.specs.declared.refusal.Refusal.TheVariants.{KeyPadding}
use Rattle.linear.specs.Casting.{cast}
use Rattle.linear.specs.Systems.{OneSolution, Solves}
use Rattle.linear.proofs.Coded.{zero_code}
use Rattle.linear.proofs.Solving.{null-regular}
use Rattle.sharing.specs.Groups.{Group}
use Rattle.sharing.specs.Scheme.{Plan, lanes}
use Rattle.sharing.specs.Systems.{opening_matrix}
use Rattle.sharing.proofs.OneWord.{opens_exactly}
use Rattle.sharing.proofs.Stores.{codes_all}
use Rattle.plan_check.specs.declared.property.Property.TheVariants.{Opening as Group-opens}
use Rattle.plan_check.proofs.Faults.{passed_both}
use Rattle.plan_check.proofs.Ranks.{Run, run_group}
use Rattle.opening.specs.Answers.{Allowed, Answered, Opened, padding}
use Rattle.opening.specs.Tables.{inputs_table, room, table}
use Rattle.opening.specs.Words.{Given, card_number, opened}
use Rattle.opening.proofs.Faultless.{Faultless, faultless}
use Rattle.opening.proofs.OneAnswer.{only_answer}
use Rattle.programs.proofs.KnownFields.{laws_of}
use Rattle.worked.specs.Cases.{Holds, Opening, loose_padding, opened_deal, worked_openings}
use Rattle.worked.specs.Cases.Case.{opening}
use Rattle.worked.proofs.Deciding.{all_at, all_below, group-passes, group_test}

-- words in a list: word by word, lane by lane
abbrev words_in : List ℕ → (t b : ℕ) → (i e c : ℕ) → ℕ
words_in ws t b i e c = get_or ws ((i * b + e) * t + c) 0

-- words that give the cards their numbers
unfoldable pub words_test : Operations → Plan → (b : ℕ) → (cards numbers : List ℕ) → ((i e c : ℕ) → ℕ) → Bool
unfolding all_below sum times reduce
words_test o p b cards numbers x =
    all_below p.t
    (λ i. all_below b
    (λ e. all_below p.t
    (λ m. ltb (x i e m) o.size && eqb (cast o p.t p.rows (x i e) ((get_or cards m 0 + i) % p.n)) (card_number p.t b numbers m i e))))

module _ (o : Operations) (p : Plan) (b : ℕ) (cards numbers : List ℕ) (x : (i e c : ℕ) → ℕ) (test : words_test o p b cards numbers x ≡ true) where
  abbrev right : (i e m : ℕ) → Bool
  right i e m = eqb (cast o p.t p.rows (x i e) ((get_or cards m 0 + i) % p.n)) (card_number p.t b numbers m i e)

  at : (i e m : ℕ) → i < p.t → e < b → m < p.t → (ltb (x i e m) o.size ≡ true) × (right i e m ≡ true)
  unfolding words_test
  at i e m hi he hm = and_parts (ltb (x i e m) o.size) (right i e m) (all_at p.t _ (all_at b _ (all_at p.t _ test i hi) e he) m hm)

  given_by : Given o p b cards numbers x
  given_by = record {
    codes = λ i e c hi he hc. ltb-true (x i e c) o.size (at i e c hi he hc).0;
    numbers = λ m i e hm hi he. eqb-true _ _ (at i e m hi he hm).1;
  }

module _ {o : Operations} (laws : Laws o) (p : Plan) (cards numbers : List ℕ) (L : ℕ) (before : List ℕ) (clear : foremost (table o p cards numbers L (length before) room) ≡ None)
    (run : Run 0 p.n cards) (test : group_test Group-opens o p cards ≡ true) where
  abbrev b : ℕ
  b = lanes p.t L

  fits : Faultless o p cards numbers L (length before) room
  fits = faultless o p cards numbers L (length before) room (sym (passed_both (inputs_table o p cards numbers L (length before)) ((0x37, ltb room room, 0) ∷ []) clear).0)

  group : Group p.n p.t cards
  group = run_group p.n p.t cards fits.numbers.count run

  -- the systems of the cards have one solution
  one : (i e : ℕ) → i < p.t → OneSolution o p.t (opening_matrix p cards i) (λ m. card_number p.t b numbers m i e)
  one i e h =
      null-regular laws p.t (opening_matrix p cards i)
      ((opens_exactly laws p cards fits.sound group).0 (group-passes Group-opens laws p fits.sound cards group test) i h)
      (λ m. card_number p.t b numbers m i e)
      (λ m hm. codes_all o (zero_code laws) numbers fits.measure.codes (m * (p.t * b) + (i * b + e)))

  solves : (x : (i e c : ℕ) → ℕ) → Given o p b cards numbers x → (i e : ℕ) → i < p.t → e < b
      → Solves o p.t (opening_matrix p cards i) (λ m. card_number p.t b numbers m i e) (x i e)
  solves x given i e hi he = record { codes = λ c h. given.codes i e c hi he h; rows = λ m hm. given.numbers m i e hm hi he }

  -- words that were found decide the answer
  pub answered_by : (x : (i e c : ℕ) → ℕ) → words_test o p b cards numbers x ≡ true → (after : List ℕ) (r : Result (Unit {0}) Refusal)
      → refused r ≡ foremost (padding L (opened o p.t b x)) → after ≡ cond (is_ok r) (take L (opened o p.t b x)) before
      → Answered o p cards numbers L before after room r
  answered_by x e after r refusal place =
      let given = given_by o p b cards numbers x e in
      let whole : Opened o p cards numbers L before after r = record {
        group = cards;
        of_cards = record { is_group = group; members = λ j. (λ h. h, λ h. h) };
        opens = group-passes Group-opens laws p fits.sound cards group test;
        words = x;
        given = given;
        only = λ y also i e c hi he hc.
            (one i e hi).only (y i e) (solves y also i e hi he) c hc ∙ sym ((one i e hi).only (x i e) (solves x given i e hi he) c hc);
        refusal = refusal;
        place = place;
      } in
      subst (λ f. Allowed o p cards numbers L before after r f) (sym clear) (inr whole)

-- r is an answer that is allowed
abbrev pub Found : Opening → Result (Unit {0}) Refusal → Type 0
Found w r = Answered (operations w.known) w.plan w.cards w.numbers w.L w.before w.after room r

-- the cards are those of a group in order; r is the answer, ws are the words
module _ (w : Opening) (r : Result (Unit {0}) Refusal) (ws : List ℕ) where
  abbrev o : Operations
  o = operations w.known

  abbrev t : ℕ
  t = w.plan.t

  abbrev x : (i e c : ℕ) → ℕ
  x = words_in ws t (lanes t w.L)

  found : foremost (table o w.plan w.cards w.numbers w.L (length w.before) room) ≡ None → Run 0 w.plan.n w.cards
      → group_test Group-opens o w.plan w.cards ≡ true → words_test o w.plan (lanes t w.L) w.cards w.numbers x ≡ true
      → refused r ≡ foremost (padding w.L (opened o t (lanes t w.L) x))
      → w.after ≡ cond (is_ok r) (take w.L (opened o t (lanes t w.L) x)) w.before → Found w r
  found clear run test words refusal place =
      answered_by (laws_of w.known) w.plan w.cards w.numbers w.L w.before clear run test x words w.after r refusal place

-- an answer that is allowed is the only one
opening_holds : (w : Opening) (r : Result (Unit {0}) Refusal) → Found w r → refused r ≡ w.refusal → Holds (opening w)
opening_holds w r answered answer =
    (r, answer, answered, only_answer (operations w.known) w.plan w.cards w.numbers w.L w.before w.after room r answered)

pub deal_opened : Found opened_deal (Ok tt)
unfolding first sum times reduce group_test words_test
deal_opened = found opened_deal (Ok tt) (0xB2 ∷ 0x3F ∷ 0xA0 ∷ 0x0B ∷ []) refl (omega arith) refl refl refl refl

padding-refused : Found loose_padding (Err (KeyPadding 3))
unfolding first sum times reduce group_test words_test
padding-refused = found loose_padding (Err (KeyPadding 3)) (0x01 ∷ 0x03 ∷ 0x02 ∷ 0x07 ∷ 0x00 ∷ 0x00 ∷ 0x00 ∷ 0x00 ∷ []) refl (omega arith) refl refl refl refl

pub opened_all : AllByRecursion Holds (map opening worked_openings)
opened_all = (opening_holds opened_deal (Ok tt) deal_opened refl, (opening_holds loose_padding (Err (KeyPadding 3)) padding-refused refl, tt))
