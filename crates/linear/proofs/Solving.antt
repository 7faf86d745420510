-- Systems whose vectors or matrices agree, and what regular and singular matrices have to do with null vectors.
-- Assumes nothing.
use Rattle.std.proofs.Common.{◌≡◌, ℕ, ◌<◌, List, sym, ap, ◌∙◌, subst, ⊎_elim, arith}
use Rattle.field.specs.Codes.{Operations, Laws}
use Rattle.linear.specs.Pivots.{entry}
use Rattle.linear.specs.Reductions.{Stuck}
use Rattle.linear.specs.Systems.{Solves, Regular, Null, Singular}
use Rattle.linear.proofs.Coded.{sum_cong}
use Rattle.linear.proofs.Crossing.{alternative_stands}

module _ (o : Operations) (n : ℕ) where
  -- vectors that agree below n solve the same systems
  pub solves_same : (a : ℕ → ℕ → ℕ) (b x y : ℕ → ℕ) → ((c : ℕ) → c < n → x c ≡ y c) → Solves o n a b x → Solves o n a b y
  solves_same a b x y h s = record {
    codes = λ i l. let P : ℕ → Type 0 = λ z. z < o.size in subst P (h i l) (s.codes i l);
    rows = λ r l.
        sum_cong o n (λ c. o.mul (a r c) (y c)) (λ c. o.mul (a r c) (x c)) (λ c g. ap (o.mul (a r c)) (sym (h c g))) ∙ s.rows r l;
  }

  module _ (a b : ℕ → ℕ → ℕ) (same : (r c : ℕ) → r < n → c < n → a r c ≡ b r c) where
    -- matrices that agree have the same solutions
    pub solves_matrix : (v x : ℕ → ℕ) → Solves o n a v x → Solves o n b v x
    solves_matrix v x s = record {
      codes = s.codes;
      rows = λ r l.
          sum_cong o n (λ c. o.mul (b r c) (x c)) (λ c. o.mul (a r c) (x c)) (λ c g. ap (λ y. o.mul y (x c)) (sym (same r c l g)))
          ∙ s.rows r l;
    }

  pub regular_matrix : (a b : ℕ → ℕ → ℕ) → ((r c : ℕ) → r < n → c < n → a r c ≡ b r c) → Regular o n a → Regular o n b
  regular_matrix a b same regular v hv =
      let one = regular v hv in
      record {
        solution = one.solution;
        solves = solves_matrix a b same v one.solution one.solves;
        only = λ y s. one.only y (solves_matrix b a (λ r c l g. sym (same r c l g)) v y s);
      }

  pub singular_matrix : (a b : ℕ → ℕ → ℕ) → ((r c : ℕ) → r < n → c < n → a r c ≡ b r c) → Singular o n a → Singular o n b
  singular_matrix a b same s = record {
    vector = s.vector;
    null = solves_matrix a b same (λ r. 0) s.vector s.null;
    place = s.place;
    within = s.within;
    nonzero = s.nonzero;
  }

-- a matrix that sends only zero to zero is regular
pub null-regular : {o : Operations} → Laws o → (n : ℕ) (a : ℕ → ℕ → ℕ)
    → ((v : ℕ → ℕ) → Null o n a v → (c : ℕ) → c < n → v c ≡ 0) → Regular o n a
null-regular laws n a only =
    ⊎_elim (λ regular. regular) (λ s. absurd (s.nonzero (only s.vector s.null s.place s.within)))
    ((alternative_stands laws).either n a)

-- a matrix with a column that has no pivot is singular
pub stuck_singular : (o : Operations) (n w k : ℕ) (s : List ℕ) → Stuck o n w k s → Singular o n (entry w s)
stuck_singular o n w k s stuck = record {
  vector = stuck.vector;
  null = stuck.null;
  place = k;
  within = stuck.within;
  nonzero = λ e. let z : ◌≡◌ {A = ℕ} 0 1 = sym e ∙ stuck.one in omega arith;
}
