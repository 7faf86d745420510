-- What is known of the inputs where no line of the table holds, and that none holds of sound inputs. Assumes nothing.
use Rattle.std.proofs.Common.{◌≡◌, ℕ, ◌*◌, ◌<◌, ◌≤◌, Bool, true, false, cond, not, ◌&&◌, eqb, ltb, leb, List, [], ◌∷◌, ◌++◌, length, get_or, is_some, Some, None, unwrap_or, sym, refl, ap, ◌∙◌, arith}
use Rattle.std.specs.Option.{option_map}
use Rattle.std.proofs.lemmas.Bool.{ltb-true, leb-true, eqb-true, eqb-false, lt-ltb, le-ltb, le-leb, eq-eqb, ne_eqb, and_parts, and_from, not-false}
use Rattle.field.specs.Codes.{Operations, first}
use Rattle.field.specs.Refusals.{Rule, foremost}
use Rattle.field.specs.Inverse.{first_none}
use Rattle.field.proofs.Limits.{passed_over}
use Rattle.sharing.specs.Scheme.{Plan, Sound, Codes, lanes}
use Rattle.plan_check.specs.Faults.{faults, no_code, first_no_code}
use Rattle.plan_check.proofs.Faults.{some_none, none_missing, passed, passed_both, passed_on, sound_faultless, faultless_sound}
use Rattle.plan_check.proofs.First.{first_nothing}
use Rattle.opening.specs.Answers.{Different}
use Rattle.opening.specs.Quorums.{Fits}
use Rattle.opening.specs.Tables.{stands, first_beyond, first_twice, number_at, data_place, room, cards_table, data_table, inputs_table, table}
use Rattle.opening.proofs.Limits.{lanes_some, lanes_few}

-- the foremost line of a table stays foremost where lines come after it
pub foremost-kept : (xs ys : List Rule) (z : ℕ × ℕ) → foremost xs ≡ Some z → foremost (xs ++ ys) ≡ Some z
foremost-kept [] ys z e = absurd (some_none z (sym e))
foremost-kept (r ∷ xs) ys z e = go r.1 (foremost-kept xs ys z) e
  where
    go : (b : Bool) → (foremost xs ≡ Some z → foremost (xs ++ ys) ≡ Some z) → cond b (Some (r.0, r.2)) (foremost xs) ≡ Some z
        → cond b (Some (r.0, r.2)) (foremost (xs ++ ys)) ≡ Some z
    go true ih s = s
    go false ih s = ih s

-- where no line of a table holds, the next table's count
pub foremost_next : (xs ys : List Rule) → foremost xs ≡ None → foremost (xs ++ ys) ≡ foremost ys
foremost_next [] ys e = refl
foremost_next (r ∷ xs) ys e =
    let here = passed r xs e in passed_over r.0 r.2 r.1 (xs ++ ys) here.0 ∙ foremost_next xs ys here.1

-- a number stands among the first ones exactly if it is at one of their places
pub stands_false : (cards : List ℕ) (places j : ℕ) → stands cards places j ≡ false → (i : ℕ) → i < places → get_or cards i 0 ≡ j → ⊥
stands_false cards places j e i h =
    eqb-false (get_or cards i 0) j
    (first_none (λ k. eqb (get_or cards k 0) j) places i (none_missing (first (λ k. eqb (get_or cards k 0) j) places) e) h)

pub stands_none : (cards : List ℕ) (places j : ℕ) → ((i : ℕ) → i < places → get_or cards i 0 ≡ j → ⊥) → stands cards places j ≡ false
stands_none cards places j apart =
    ap is_some (first_nothing (λ k. eqb (get_or cards k 0) j) places (λ i h. ne_eqb (get_or cards i 0) j (apart i h)))

module _ (t n : ℕ) (cards : List ℕ) where
  abbrev of_beyond : Rule
  of_beyond = (0x31, is_some (first_beyond n cards), number_at cards (first_beyond n cards))

  abbrev of_twice : Rule
  of_twice = (0x32, is_some (first_twice cards), number_at cards (first_twice cards))

  -- t different numbers below n
  pub record Numbered : Type 0 where
    pub count : length cards ≡ t
    pub below : (i : ℕ) → i < length cards → get_or cards i 0 < n
    pub different : Different cards

  pub numbered : foremost (cards_table t n cards) ≡ None → Numbered
  numbered e =
      let past-count = passed (0x30, not (eqb (length cards) t), 0) (of_beyond ∷ of_twice ∷ []) e in
      let past-beyond = passed of_beyond (of_twice ∷ []) past-count.1 in
      let past-twice = passed of_twice [] past-beyond.1 in
      record {
        count = eqb-true (length cards) t (not-false (eqb (length cards) t) past-count.0);
        below = λ i h.
            ltb-true (get_or cards i 0) n
            (not-false (ltb (get_or cards i 0) n)
            (first_none (λ i. not (ltb (get_or cards i 0) n)) (length cards) i (none_missing (first_beyond n cards) past-beyond.0) h));
        different = λ i h l m.
            stands_false cards h (get_or cards h 0)
            (first_none (λ i. stands cards i (get_or cards i 0)) (length cards) h (none_missing (first_twice cards) past-twice.0) m)
            i l;
      }

  pub numbered_faultless : Numbered → foremost (cards_table t n cards) ≡ None
  numbered_faultless h =
      passed_over 0x30 0 (not (eqb (length cards) t)) (of_beyond ∷ of_twice ∷ []) (ap not (eq-eqb (length cards) t h.count))
      ∙ passed_over 0x31 of_beyond.2 of_beyond.1 (of_twice ∷ [])
      (ap is_some
      (first_nothing (λ i. not (ltb (get_or cards i 0) n)) (length cards)
      (λ i l. ap not (lt-ltb (get_or cards i 0) n (h.below i l)))))
      ∙ passed_over 0x32 of_twice.2 of_twice.1 []
      (ap is_some
      (first_nothing (λ i. stands cards i (get_or cards i 0)) (length cards)
      (λ i l. stands_none cards i (get_or cards i 0) (λ k m. h.different k i m l))))

module _ (o : Operations) (t L : ℕ) (cards «data» : List ℕ) where
  abbrev of_length : Rule
  of_length = (0x34, not (eqb (length «data») (t * (t * lanes t L))), 0)

  abbrev of_codes : Rule
  of_codes =
      (0x35, is_some (first_no_code o «data»), unwrap_or (option_map (data_place cards (t * lanes t L)) (first_no_code o «data»)) 0)

  -- a length within limits, and as many codes as t cards of that length have
  pub record Measured : Type 0 where
    pub some : 1 ≤ L
    pub most : L ≤ 64
    pub long : length «data» ≡ t * (t * lanes t L)
    pub codes : Codes o «data»

  pub measured : foremost (data_table o t L cards «data») ≡ None → Measured
  measured e =
      let past-limits = passed (0x33, not (leb 1 L && leb L 64), 0) (of_length ∷ of_codes ∷ []) e in
      let past-length = passed of_length (of_codes ∷ []) past-limits.1 in
      let past-codes = passed of_codes [] past-length.1 in
      let limits = and_parts (leb 1 L) (leb L 64) (not-false (leb 1 L && leb L 64) past-limits.0) in
      let none = none_missing (first_no_code o «data») past-codes.0 in
      record {
        some = leb-true 1 L limits.0;
        most = leb-true L 64 limits.1;
        long = eqb-true (length «data») (t * (t * lanes t L)) (not-false (eqb (length «data») (t * (t * lanes t L))) past-length.0);
        codes = λ i h.
            ltb-true (get_or «data» i 0) o.size
            (not-false (ltb (get_or «data» i 0) o.size) (first_none (no_code o «data») (length «data») i none h));
      }

  pub measured_faultless : Measured → foremost (data_table o t L cards «data») ≡ None
  measured_faultless h =
      passed_over 0x33 0 (not (leb 1 L && leb L 64)) (of_length ∷ of_codes ∷ [])
      (ap not (and_from (leb 1 L) (leb L 64) (le-leb 1 L h.some) (le-leb L 64 h.most)))
      ∙ passed_over 0x34 0 of_length.1 (of_codes ∷ []) (ap not (eq-eqb (length «data») (t * (t * lanes t L)) h.long))
      ∙ passed_over 0x35 of_codes.2 of_codes.1 []
      (ap is_some
      (first_nothing (no_code o «data») (length «data») (λ i l. ap not (lt-ltb (get_or «data» i 0) o.size (h.codes i l)))))

module _ (o : Operations) (p : Plan) (cards «data» : List ℕ) (L place workspace : ℕ) where
  -- inputs that nothing in the table is against
  pub record Faultless : Type 0 where
    pub sound : Sound o p
    pub numbers : Numbered p.t p.n cards
    pub measure : Measured o p.t L cards «data»
    pub placed : place ≡ L

  abbrev of_place : Rule
  of_place = (0x36, not (eqb place L), 0)

  pub faultless : None ≡ foremost (inputs_table o p cards «data» L place) → Faultless
  faultless e =
      let plan = passed_both (faults o p) (cards_table p.t p.n cards ++ (data_table o p.t L cards «data» ++ of_place ∷ [])) (sym e) in
      let numbers = passed_both (cards_table p.t p.n cards) (data_table o p.t L cards «data» ++ of_place ∷ []) plan.1 in
      let measure = passed_both (data_table o p.t L cards «data») (of_place ∷ []) numbers.1 in
      record {
        sound = faultless_sound o p plan.0;
        numbers = numbered p.t p.n cards numbers.0;
        measure = measured o p.t L cards «data» measure.0;
        placed = eqb-true place L (not-false (eqb place L) (passed of_place [] measure.1).0);
      }

  pub table_faultless : Faultless → room ≤ workspace → foremost (table o p cards «data» L place workspace) ≡ None
  table_faultless h enough =
      passed_on (inputs_table o p cards «data» L place) ((0x37, ltb workspace room, 0) ∷ [])
      (passed_on (faults o p) (cards_table p.t p.n cards ++ (data_table o p.t L cards «data» ++ of_place ∷ []))
      (sound_faultless o p h.sound)
      (passed_on (cards_table p.t p.n cards) (data_table o p.t L cards «data» ++ of_place ∷ [])
      (numbered_faultless p.t p.n cards h.numbers)
      (passed_on (data_table o p.t L cards «data») (of_place ∷ [])
      (measured_faultless o p.t L cards «data» h.measure)
      (passed_over 0x36 0 of_place.1 [] (ap not (eq-eqb place L h.placed))))))
      (passed_over 0x37 0 (ltb workspace room) [] (le-ltb workspace room enough))

  -- such inputs are cards that an opening can begin with
  pub faultless_fits : Faultless → (b : ℕ) → b ≡ lanes p.t L
      → Fits o (record { plan = p; numbers = cards; «data» = «data»; lanes = b })
  faultless_fits h b same =
      let least : 2 ≤ p.t = h.sound.least in
      let eight : p.t ≤ 8 = omega (arith, h.sound.ordered, h.sound.most) in
      let some = lanes_some p.t L (omega arith) h.measure.some in
      let few = lanes_few p.t L least eight h.measure.most in
      record {
        sound = h.sound;
        count = h.numbers.count;
        below = h.numbers.below;
        different = h.numbers.different;
        some = omega arith;
        few = omega arith;
        long = h.measure.long ∙ ap (λ b. p.t * (p.t * b)) (sym same);
        codes = h.measure.codes;
      }
