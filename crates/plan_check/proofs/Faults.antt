-- A plan has no fault exactly if it is sound in the field. Assumes nothing.
use Rattle.std.proofs.Common.{◌≡◌, ℕ, ◌-◌, ◌*◌, Bool, true, false, cond, not, ◌&&◌, eqb, ltb, leb, List, [], ◌∷◌, ◌++◌, length, get_or, is_some, Some, None, Option, unwrap_or, refl, ap, ◌∙◌, arith}
use Rattle.std.proofs.lemmas.Bool.{ltb-true, eqb-true, lt-ltb, le-leb, eq-eqb, and_from, not-false}
use Rattle.field.specs.Codes.{Operations}
use Rattle.field.specs.Refusals.{Rule, foremost}
use Rattle.field.specs.Rows.{within}
use Rattle.field.specs.Inverse.{first_none}
use Rattle.field.proofs.Limits.{within-parts, passed_over}
use Rattle.sharing.specs.Scheme.{Codes, Plan, Sound}
use Rattle.plan_check.specs.Faults.{faults, no_code, first_no_code}
use Rattle.plan_check.proofs.First.{first_nothing}

pub some_none : {A : Type 0} (a : A) → Some a ≡ None → ⊥
some_none a e = let z : ◌≡◌ {A = ℕ} 0 1 = cc in omega arith

pub none_missing : {A : Type 0} (o : Option A) → is_some o ≡ false → o ≡ None
none_missing None e = refl
none_missing (Some a) e = let z : ◌≡◌ {A = ℕ} 0 1 = cc in absurd (omega arith)

-- no line of a table holds exactly if its first does not, and none of the rest
pub passed : (r : Rule) (rest : List Rule) → foremost (r ∷ rest) ≡ None → (r.1 ≡ false) × (foremost rest ≡ None)
passed r rest e = go r.1 refl e
  where
    go : (b : Bool) → r.1 ≡ b → cond b (Some (r.0, r.2)) (foremost rest) ≡ None → (r.1 ≡ false) × (foremost rest ≡ None)
    go true h s = absurd (some_none (r.0, r.2) s)
    go false h s = (h, s)

-- and of two tables one after the other exactly if none of either holds
pub passed_both : (xs ys : List Rule) → foremost (xs ++ ys) ≡ None → (foremost xs ≡ None) × (foremost ys ≡ None)
passed_both [] ys e = (refl, e)
passed_both (r ∷ xs) ys e =
    let here = passed r (xs ++ ys) e in
    let rest = passed_both xs ys here.1 in
    (passed_over r.0 r.2 r.1 xs here.0 ∙ rest.0, rest.1)

pub passed_on : (xs ys : List Rule) → foremost xs ≡ None → foremost ys ≡ None → foremost (xs ++ ys) ≡ None
passed_on [] ys e f = f
passed_on (r ∷ xs) ys e f =
    let here = passed r xs e in passed_over r.0 r.2 r.1 (xs ++ ys) here.0 ∙ passed_on xs ys here.1 f

-- no number is found that is no code exactly if all are codes
module _ (o : Operations) (xs : List ℕ) where
  pub all_codes : first_no_code o xs ≡ None → Codes o xs
  all_codes e i lt =
      ltb-true (get_or xs i 0) o.size
      (not-false (ltb (get_or xs i 0) o.size) (first_none (no_code o xs) (length xs) i e lt))

  pub none_no_code : Codes o xs → first_no_code o xs ≡ None
  none_no_code codes = first_nothing (no_code o xs) (length xs) (λ i lt. ap not (lt-ltb (get_or xs i 0) o.size (codes i lt)))

module _ (o : Operations) (p : Plan) where
  within_sound : Sound o p → within p.t p.n ≡ true
  within_sound sound =
      and_from (leb 2 p.t) (leb p.t p.n && leb p.n 8) (le-leb 2 p.t sound.least)
      (and_from (leb p.t p.n) (leb p.n 8) (le-leb p.t p.n sound.ordered) (le-leb p.n 8 sound.most))

  codes_sound : Sound o p → first_no_code o p.rows ≡ None
  codes_sound sound = none_no_code o p.rows sound.codes

  abbrev of_length : Rule
  of_length = (0x11, not (eqb (length p.rows) ((p.n - p.t) * p.t)), 0)

  abbrev of_codes : Rule
  of_codes = (0x12, is_some (first_no_code o p.rows), unwrap_or (first_no_code o p.rows) 0)

  pub sound_faultless : Sound o p → foremost (faults o p) ≡ None
  sound_faultless sound =
      passed_over 0x10 0 (not (within p.t p.n)) (of_length ∷ of_codes ∷ []) (ap not (within_sound sound))
      ∙ passed_over 0x11 0 of_length.1 (of_codes ∷ []) (ap not (eq-eqb (length p.rows) ((p.n - p.t) * p.t) sound.long))
      ∙ passed_over 0x12 of_codes.2 of_codes.1 [] (ap is_some (codes_sound sound))

  pub faultless_sound : foremost (faults o p) ≡ None → Sound o p
  faultless_sound e =
      let past-limits = passed (0x10, not (within p.t p.n), 0) (of_length ∷ of_codes ∷ []) e in
      let past-length = passed of_length (of_codes ∷ []) past-limits.1 in
      let past-codes = passed of_codes [] past-length.1 in
      let limits = within-parts p.t p.n (not-false (within p.t p.n) past-limits.0) in
      let none = none_missing (first_no_code o p.rows) past-codes.0 in
      record {
        least = limits.0;
        ordered = limits.1;
        most = limits.2;
        long =
            eqb-true (length p.rows) ((p.n - p.t) * p.t)
            (not-false (eqb (length p.rows) ((p.n - p.t) * p.t)) past-length.0);
        codes = all_codes o p.rows none;
      }
