-- Where the numbers of a quorum stand, and what a laid system is: a matrix of codes, whose solution is that of the cards'
-- equations. Assumes nothing.
use Rattle.std.proofs.Common.{◌≡◌, ℕ, ◌+◌, ◌-◌, ◌*◌, ◌/◌, ◌%◌, ◌<◌, cond, eqb, ltb, List, length, get_or, Ok, Err, Result, OnOk, OnErr, sym, refl, ap, ◌∙◌, subst, ap₂, arith}
use Rattle.std.proofs.lemmas.Nat.{div-mul-add, mod-mul-add}
use Rattle.std.proofs.lemmas.Bool.{lt-ltb, le-ltb, cond-true, cond-false, cond_both}
use Rattle.field.specs.Codes.{Operations, Laws}
use Rattle.linear.specs.Casting.{row}
use Rattle.linear.specs.Pivots.{entry}
use Rattle.linear.specs.Reductions.{Matrix, Stuck, Reduced}
use Rattle.linear.specs.Systems.{Solves, Regular, Singular}
use Rattle.linear.specs.declared.reduction.Unreduced.{Unreduced}
use Rattle.linear.specs.declared.reduction.Unreduced.TheVariants.{NoMatrix, NoPivot}
use Rattle.linear.proofs.Coded.{sum_cong, zero_code, one_code}
use Rattle.sharing.proofs.Stores.{within, codes_all}
use Rattle.sharing.specs.Systems.{opening_matrix}
use Rattle.opening.specs.Quorums.{Gathered, Fits, system, Solved}
use Rattle.opening.specs.Words.{card_number}

-- matrices that agree have the same solutions
pub solves_cong : (o : Operations) (n : ℕ) (a a' : ℕ → ℕ → ℕ) (b b' x : ℕ → ℕ) → ((r c : ℕ) → r < n → c < n → a r c ≡ a' r c)
    → ((r : ℕ) → r < n → b r ≡ b' r) → Solves o n a b x → Solves o n a' b' x
solves_cong o n a a' b b' x same right s =
    record {
      codes = s.codes;
      rows = λ r l. sum_cong o n _ _ (λ c h. ap (λ y. o.mul y (x c)) (sym (same r c l h))) ∙ s.rows r l ∙ right r l;
    }

pub regular_cong : (o : Operations) (n : ℕ) (a a' : ℕ → ℕ → ℕ) → ((r c : ℕ) → r < n → c < n → a r c ≡ a' r c)
    → Regular o n a → Regular o n a'
regular_cong o n a a' same regular b codes =
    let one = regular b codes in
    record {
      solution = one.solution;
      solves = solves_cong o n a a' b b one.solution same (λ r l. refl) one.solves;
      only = λ y s. one.only y (solves_cong o n a' a b b y (λ r c l h. sym (same r c l h)) (λ r l. refl) s);
    }

pub singular_cong : (o : Operations) (n : ℕ) (a a' : ℕ → ℕ → ℕ) → ((r c : ℕ) → r < n → c < n → a r c ≡ a' r c)
    → Singular o n a → Singular o n a'
singular_cong o n a a' same s =
    record {
      vector = s.vector;
      null = solves_cong o n a a' (λ r. 0) (λ r. 0) s.vector same (λ r l. refl) s.null;
      place = s.place;
      within = s.within;
      nonzero = s.nonzero;
    }

-- a matrix without a pivot in some column is singular
pub singular_of_stuck : (o : Operations) (n w k : ℕ) (s : List ℕ) → Stuck o n w k s → Singular o n (entry w s)
singular_of_stuck o n w k s stuck =
    record {
      vector = stuck.vector;
      null = stuck.null;
      place = k;
      within = stuck.within;
      nonzero = λ e. let z : ◌≡◌ {A = ℕ} 1 0 = sym stuck.one ∙ e in absurd (omega arith);
    }

-- every number of a plan's rows is a code
pub row-code : {o : Operations} → Laws o → (t : ℕ) (given : List ℕ) → ((y : ℕ) → get_or given y 0 < o.size)
    → (r c : ℕ) → row t given r c < o.size
row-code {o} laws t given codes r c =
    cond_both (ltb r t) (cond (eqb r c) 1 0) (get_or given ((r - t) * t + c) 0) (λ x. x < o.size)
    (λ is. cond_both (eqb r c) 1 0 (λ x. x < o.size) (λ is. one_code laws) (λ is. zero_code laws))
    (λ is. codes ((r - t) * t + c))

module _ {o : Operations} (laws : Laws o) (q : Gathered) (fits : Fits o q) (i : ℕ) where
  pub system_code : (m c : ℕ) → system q i m c < o.size
  system_code m c =
      cond_both (ltb c q.plan.t) (opening_matrix q.plan q.numbers i m c)
      (card_number q.plan.t q.lanes q.«data» m i (c - q.plan.t)) (λ x. x < o.size)
      (λ is.
      row-code laws q.plan.t q.plan.rows (codes_all o (zero_code laws) q.plan.rows fits.sound.codes)
      ((get_or q.numbers m 0 + i) % q.plan.n) c)
      (λ is.
      codes_all o (zero_code laws) q.«data» fits.codes
      (m * (q.plan.t * q.lanes) + (i * q.lanes + (c - q.plan.t))))

  module _ (s : List ℕ) (long : length s ≡ q.plan.t * (q.plan.t + q.lanes))
      (laid : (y : ℕ) → y < length s → get_or s y 0 ≡ system q i (y / (q.plan.t + q.lanes)) (y % (q.plan.t + q.lanes))) where
    laid-entry : (m c : ℕ) → m < q.plan.t → c < q.plan.t + q.lanes → entry (q.plan.t + q.lanes) s m c ≡ system q i m c
    laid-entry m c hm hc =
        laid (m * (q.plan.t + q.lanes) + c)
        (subst (λ z. m * (q.plan.t + q.lanes) + c < z) (sym long) (within q.plan.t (q.plan.t + q.lanes) m c hm hc))
        ∙ ap₂ (system q i) (div-mul-add m (q.plan.t + q.lanes) c hc) (mod-mul-add m (q.plan.t + q.lanes) c hc)

    -- the coefficients are the plan's rows
    pub laid_coefficient : (m c : ℕ) → m < q.plan.t → c < q.plan.t
        → entry (q.plan.t + q.lanes) s m c ≡ opening_matrix q.plan q.numbers i m c
    laid_coefficient m c hm hc =
        laid-entry m c hm (omega arith) ∙ cond-true (ltb c q.plan.t) _ _ (lt-ltb c q.plan.t hc)

    -- beside them stand the lanes' numbers
    pub laid_right : (m e : ℕ) → m < q.plan.t → e < q.lanes
        → entry (q.plan.t + q.lanes) s m (q.plan.t + e) ≡ card_number q.plan.t q.lanes q.«data» m i e
    laid_right m e hm he =
        laid-entry m (q.plan.t + e) hm (omega arith)
        ∙ cond-false (ltb (q.plan.t + e) q.plan.t) _ _ (le-ltb (q.plan.t + e) q.plan.t (omega arith))
        ∙ ap (card_number q.plan.t q.lanes q.«data» m i) (omega arith)

    pub laid_matrix : Matrix o q.plan.t (q.plan.t + q.lanes) s
    laid_matrix =
        record {
          square = omega arith;
          size = long;
          codes = λ y l.
              subst (λ x. x < o.size) (sym (laid y l)) (system_code (y / (q.plan.t + q.lanes)) (y % (q.plan.t + q.lanes)));
        }

    -- reduced in full, it holds the words
    pub row_solved : (t : List ℕ) (r : Result (Unit {0}) Unreduced) → Reduced o q.plan.t (q.plan.t + q.lanes) s t r
        → OnOk r (Solved o q i t)
    row_solved t (Ok _) reduced =
        record {
          regular = regular_cong o q.plan.t _ _ laid_coefficient reduced.2.regular;
          words = λ e he.
              solves_cong o q.plan.t _ _ _ _ _ laid_coefficient (λ m hm. laid_right m e hm he)
              (reduced.2.solutions (q.plan.t + e) (omega arith) (omega arith));
        }
    row_solved t (Err e) reduced = tt

    -- without a pivot, the cards' equations are singular
    pub row_singular : (t : List ℕ) (r : Result (Unit {0}) Unreduced) → Reduced o q.plan.t (q.plan.t + q.lanes) s t r
        → OnErr r (Singular o q.plan.t (opening_matrix q.plan q.numbers i))
    row_singular t (Ok _) reduced = tt
    row_singular t (Err NoMatrix) reduced = absurd (reduced.0 laid_matrix)
    row_singular t (Err (NoPivot k)) reduced =
        singular_cong o q.plan.t _ _ laid_coefficient (singular_of_stuck o q.plan.t (q.plan.t + q.lanes) k s reduced.2)
