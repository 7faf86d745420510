-- A group of t − 1 cards hides exactly if its lane equations send no dummy numbers but zero to zeros. Assumes nothing.
--   right_side   what the dummy numbers of lane e have to give, for another key to have the same cards
use Rattle.std.proofs.Common.{◌≡◌, ℕ, ◌+◌, ◌-◌, ◌*◌, ◌/◌, ◌%◌, ◌<◌, List, length, get_or, sym, ap, ◌∙◌, ap₂, mul_assoc, arith}
use Rattle.std.proofs.lemmas.Nat.{div-mul-add, mod-mul-add}
use Rattle.field.specs.Codes.{Operations, Laws}
use Rattle.linear.specs.Systems.{times, Solves, OneSolution, Regular, Null}
use Rattle.linear.proofs.Scalars.{Scalars, minus}
use Rattle.linear.proofs.Coded.{Code, coded, code, code_of, code_is, code_inj, sum_below, sum_cong, zero_code}
use Rattle.linear.proofs.Solving.{null-regular}
use Rattle.sharing.specs.Scheme.{Plan, Sound, Key, Dummies, Deal, lanes, store}
use Rattle.sharing.specs.Secrecy.{Fits, Hides}
use Rattle.sharing.specs.Systems.{OnlyZero, lane_size, hiding_matrix, HidesExactly}
use Rattle.sharing.proofs.Casts.{cast_below}
use Rattle.sharing.proofs.LaneSystem.{key_cast, code_number}
use Rattle.linear.proofs.Crossing.{zero_null}
use Rattle.sharing.proofs.OneLane.{spelled, key_spelled, dummies_laid, laid-number, deal_of}
use Rattle.sharing.proofs.Stores.{within, by-lanes, same_by_lanes, codes_all, lanes_one, laid, number, numbers_of_alike, alike_of_numbers}
use Rattle.sharing.proofs.Words.{dummy_number}

-- a sum minus its first term is its second
pub minus-first : {K : Type 0} (F : Scalars K) (a b : K) → minus F (F.add a b) a ≡ b
minus-first F a b =
    ap (λ x. F.add x (F.neg a)) (F.add_comm a b) ∙ F.add_assoc b a (F.neg a) ∙ ap (F.add b) (F.add_neg a) ∙ F.add_nil b

pub add_minus : {K : Type 0} (F : Scalars K) (a b : K) → F.add a (minus F b a) ≡ b
add_minus F a b =
    F.add_comm a (minus F b a) ∙ F.add_assoc b (F.neg a) a ∙ ap (F.add b) (F.add_comm (F.neg a) a ∙ F.add_neg a) ∙ F.add_nil b

module _ {o : Operations} (laws : Laws o) (p : Plan) (g : List ℕ) (sound : Sound o p) (size : length g ≡ p.t - 1) where
  pos : 0 < p.t
  pos = omega (arith, sound.least)

  -- dummy numbers that are the same are sent to the same
  times_cong : (x y : ℕ → ℕ) (r : ℕ) → ((u : ℕ) → u < lane_size p → x u ≡ y u)
      → times o (lane_size p) (hiding_matrix p g) x r ≡ times o (lane_size p) (hiding_matrix p g) y r
  times_cong x y r same = sum_cong o (lane_size p) _ _ (λ u l. ap (o.mul (hiding_matrix p g r u)) (same u l))

  module _ (regular : Regular o (lane_size p) (hiding_matrix p g)) (L : ℕ) (key dummies key' : List ℕ) (deal : Deal o p L key dummies)
      (key'-of : Key o L key') where
    given : ℕ → ℕ → ℕ → Code o
    given m i e =
        minus (coded laws) (code laws (number o p (lanes p.t L) (store p.t L key dummies) g m i e)) (key_cast laws p g L key' m i e)

    right_side : (e r : ℕ) → ℕ
    unfolding given
    right_side e r = (given (r / p.t) (r % p.t) e).0

    -- at equation m × t + i
    right_side_at : (m i e : ℕ) → i < p.t → right_side e (m * p.t + i) ≡ (given m i e).0
    unfolding right_side
    right_side_at m i e hi = ap₂ (λ m i. (given m i e).0) (div-mul-add m p.t i hi) (mod-mul-add m p.t i hi)

    solution : (e : ℕ) → OneSolution o (lane_size p) (hiding_matrix p g) (right_side e)
    unfolding right_side
    solution e = regular (right_side e) (λ r l. (given (r / p.t) (r % p.t) e).1)

    found : List ℕ
    found = laid p.t (lanes p.t L) (λ e u. (solution e).solution u)

    found_dummies : Dummies o p.t L found
    unfolding found
    found_dummies =
        dummies_laid o p.t L (λ e u. (solution e).solution u) (λ e u he hu. (solution e).solves.codes u hu)

    -- the equations' values at the solution
    found_times : (m i e : ℕ) → m < p.t - 1 → i < p.t → e < lanes p.t L
        → code laws (times o (lane_size p) (hiding_matrix p g) (dummy_number p.t L found e) (m * p.t + i)) ≡ given m i e
    unfolding found
    found_times m i e hm hi he =
        ap (code laws)
        (times_cong (dummy_number p.t L found e) (solution e).solution (m * p.t + i)
        (λ u hu. laid-number p.t L (λ e u. (solution e).solution u) e u he hu)
        ∙ (solution e).solves.rows (m * p.t + i) (within (p.t - 1) p.t m i hm hi)
        ∙ right_side_at m i e hi)
        ∙ code_is laws (given m i e)

    -- the solution gives the other key the same numbers
    found_numbers : (m i e : ℕ) → m < length g → i < p.t → e < lanes p.t L
        → number o p (lanes p.t L) (store p.t L key dummies) g m i e
        ≡ number o p (lanes p.t L) (store p.t L key' found) g m i e
    unfolding given
    found_numbers m i e hm hi he =
        code_inj laws _ _ (cast_below laws p.t p.rows _ _) (cast_below laws p.t p.rows _ _)
        (sym (add_minus (coded laws) (key_cast laws p g L key' m i e) _)
        ∙ ap ((coded laws).add (key_cast laws p g L key' m i e)) (sym (found_times m i e (omega arith) hi he))
        ∙ sym (code_number laws p g L key' found pos key'-of found_dummies m i e hi he))

    -- dummy keys that give it the same numbers solve the same equations
    other_solves : (other : List ℕ) → Fits o p L g (store p.t L key dummies) key' other → (e : ℕ) → e < lanes p.t L
        → Solves o (lane_size p) (hiding_matrix p g) (right_side e) (dummy_number p.t L other e)
    unfolding given
    other_solves other fits e he =
        record {
          codes = λ u hu. codes_all o (zero_code laws) other fits.0.1 (u * lanes p.t L + e);
          rows = by-lanes (p.t - 1) p.t
              (λ r. times o (lane_size p) (hiding_matrix p g) (dummy_number p.t L other e) r ≡ right_side e r)
              (λ m i hm hi.
              let held : m < length g = omega arith in
              sym (code_of laws _ (sum_below laws (lane_size p) _))
              ∙ ap (λ x. x.0)
              (sym (minus-first (coded laws) (key_cast laws p g L key' m i e) _)
              ∙ ap (λ x. minus (coded laws) x (key_cast laws p g L key' m i e))
              (sym (code_number laws p g L key' other pos key'-of fits.0 m i e hi he)
              ∙ ap (code laws) (sym (numbers_of_alike o p (lanes p.t L) g _ _ fits.1 m i e held hi he))))
              ∙ sym (right_side_at m i e hi));
        }

    only_found : (other : List ℕ) → Fits o p L g (store p.t L key dummies) key' other → other ≡ found
    unfolding found
    only_found other fits =
        same_by_lanes (lane_size p) (lanes p.t L) other found
        (fits.0.0 ∙ sym (mul_assoc (p.t - 1) p.t (lanes p.t L)))
        (found_dummies.0 ∙ sym (mul_assoc (p.t - 1) p.t (lanes p.t L)))
        (λ u e hu he.
        (solution e).only (dummy_number p.t L other e) (other_solves other fits e he) u hu
        ∙ sym (laid-number p.t L (λ e u. (solution e).solution u) e u he hu))

    one_found : (found : List ℕ) × Fits o p L g (store p.t L key dummies) key' found
        × ((other : List ℕ) → Fits o p L g (store p.t L key dummies) key' other → other ≡ found)
    one_found = (found, (found_dummies, alike_of_numbers o p (lanes p.t L) g _ _ found_numbers), only_found)

  -- where each right side has exactly one solution, the group hides
  pub hides_of_regular : Regular o (lane_size p) (hiding_matrix p g) → Hides o p g
  hides_of_regular regular L key dummies key' deal key'-of = one_found regular L key dummies key' deal key'-of

  zeros : List ℕ
  zeros = spelled p.t (λ c. 0)

  zeros_key : Key o p.t zeros
  unfolding zeros
  zeros_key = key_spelled o p.t (λ c. 0) (λ c hc. zero_code laws)

  null_dummies : (x : ℕ → ℕ) → Null o (lane_size p) (hiding_matrix p g) x
      → Dummies o p.t p.t (laid p.t (lanes p.t p.t) (λ e. x))
  null_dummies x null = dummies_laid o p.t p.t (λ e. x) (λ e u he hu. null.codes u hu)

  -- with null dummy numbers the zero key's cards are what the key gives
  null-number : (x : ℕ → ℕ) → Null o (lane_size p) (hiding_matrix p g) x → (m i e : ℕ) → m < p.t - 1 → i < p.t → e < lanes p.t p.t
      → code laws (number o p (lanes p.t p.t) (store p.t p.t zeros (laid p.t (lanes p.t p.t) (λ e. x))) g m i e)
      ≡ (coded laws).add (key_cast laws p g p.t zeros m i e) (code laws 0)
  null-number x null m i e hm hi he =
      code_number laws p g p.t zeros (laid p.t (lanes p.t p.t) (λ e. x)) pos zeros_key (null_dummies x null) m i e hi he
      ∙ ap (λ a. (coded laws).add (key_cast laws p g p.t zeros m i e) (code laws a))
      (times_cong (dummy_number p.t p.t (laid p.t (lanes p.t p.t) (λ e. x)) e) x (m * p.t + i)
      (λ u hu. laid-number p.t p.t (λ e. x) e u he hu)
      ∙ null.rows (m * p.t + i) (within (p.t - 1) p.t m i hm hi))

  -- null dummy numbers give the zero key the same cards as zeros do, so they are zeros
  pub only_zero_of_hides : Hides o p g → OnlyZero o (lane_size p) (hiding_matrix p g)
  unfolding zeros
  only_zero_of_hides hides x null u hu =
      sym (laid-number p.t p.t (λ e. x) 0 u lane hu)
      ∙ ap (λ xs. get_or xs (u * b + 0) 0) (found.2 _ (fits x null) ∙ sym (found.2 _ (fits (λ u. 0) zeros_null)))
      ∙ laid-number p.t p.t (λ e u. 0) 0 u lane hu
    where
      b : ℕ
      b = lanes p.t p.t

      zeros_null : Null o (lane_size p) (hiding_matrix p g) (λ u. 0)
      zeros_null = zero_null laws (lane_size p) (hiding_matrix p g)

      lane : 0 < b
      lane = omega (arith, lanes_one p.t pos)

      found : (found : List ℕ) × Fits o p p.t g (store p.t p.t zeros (laid p.t b (λ e u. 0))) zeros found
          × ((other : List ℕ) → Fits o p p.t g (store p.t p.t zeros (laid p.t b (λ e u. 0))) zeros other → other ≡ found)
      found =
          hides p.t zeros (laid p.t b (λ e u. 0)) zeros
          (deal_of o p sound (λ c. 0) (λ e u. 0) (λ c hc. zero_code laws) (λ e u he hu. zero_code laws))
          zeros_key

      fits : (y : ℕ → ℕ) → Null o (lane_size p) (hiding_matrix p g) y
          → Fits o p p.t g (store p.t p.t zeros (laid p.t b (λ e u. 0))) zeros (laid p.t b (λ e. y))
      fits y y-null = (
        null_dummies y y-null,
        alike_of_numbers o p b g _ _
            (λ m i e hm hi he.
            let row : m < p.t - 1 = omega arith in
            code_inj laws _ _ (cast_below laws p.t p.rows _ _) (cast_below laws p.t p.rows _ _)
            (null-number (λ u. 0) zeros_null m i e row hi he ∙ sym (null-number y y-null m i e row hi he))),
      )

-- a group of t − 1 cards hides exactly if its lane equations send no dummy numbers but zero to zeros
pub hides_exactly : {o : Operations} → Laws o → HidesExactly o
hides_exactly laws p g sound group =
    let regular = null-regular laws (lane_size p) (hiding_matrix p g) in
    let only = only_zero_of_hides laws p g sound group.0 in
    ((only, λ zero. hides_of_regular laws p g sound group.0 (regular zero)), λ hides. regular (only hides))
