-- The phase that an event leads to is right for the cards held, and keeps the first card's heading. Assumes nothing.
use Rattle.std.proofs.Common.{◌≡◌, ℕ, ◌<◌, Bool, true, false, cond, eqb, ltb, leb, Some, None, Option, sym, refl, ap, ◌∙◌, arith}
use Rattle.std.proofs.lemmas.Bool.{and_from, and_parts, eq-eqb, ne_eqb, eqb-false, lt-ltb, le-ltb, le-leb, leb-true, ltb-true, ltb-false}
use Rattle.slot.specs.Holdings.{within_limits}
use Rattle.slot.specs.Phases.{first_heading, in_phase, phase_of}
use Rattle.slot.specs.declared.phase.Heading.{Heading}
use Rattle.slot.specs.declared.phase.Phase.{Phase}
use Rattle.slot.specs.declared.phase.Phase.TheVariants.{Empty, Gathering, Ready}

-- the phase by the two tests
pub by_tests : (h : Heading) (b d : Bool) → first_heading (cond b Empty (cond d (Gathering h) (Ready h))) ≡ cond b None (Some h)
by_tests h true d = refl
by_tests h false true = refl
by_tests h false false = refl

pub heading_some : (h : Heading) (c : ℕ) → first_heading (phase_of (Some h) c) ≡ cond (eqb c 0) None (Some h)
heading_some h c = by_tests h (eqb c 0) (ltb c h.t)

pub heading_of_phase : (o : Option Heading) (c : ℕ) → first_heading (phase_of o c) ≡ cond (eqb c 0) None o
heading_of_phase None c = none (eqb c 0)
  where
    none : (b : Bool) → ◌≡◌ {A = Option Heading} None (cond b None None)
    none true = refl
    none false = refl
heading_of_phase (Some h) c = heading_some h c

pub heading-kept : (o : Option Heading) (c : ℕ) → 0 < c → first_heading (phase_of o c) ≡ o
heading-kept o c pos = heading_of_phase o c ∙ ap (λ b. cond b None o) (ne_eqb c 0 (omega (arith, pos)))

right_by : (h : Heading) (c : ℕ) (b d : Bool) → eqb c 0 ≡ b → ltb c h.t ≡ d → in_phase (cond b Empty (cond d (Gathering h) (Ready h))) c ≡ true
right_by h c true d e f = e
right_by h c false true e f = and_from (ltb 0 c) (ltb c h.t) (lt-ltb 0 c (omega (arith, eqb-false c 0 e))) f
right_by h c false false e f = and_from (ltb 0 c) (leb h.t c) (lt-ltb 0 c (omega (arith, eqb-false c 0 e))) (le-leb h.t c (ltb-false c h.t f))

pub right_phase : (o : Option Heading) (c : ℕ) → (o ≡ None → c ≡ 0) → in_phase (phase_of o c) c ≡ true
right_phase None c none = eq-eqb c 0 (none refl)
right_phase (Some h) c none = right_by h c (eqb c 0) (ltb c h.t) refl refl

limits_by : (b : Bool) (o : Option Heading) → within_limits o ≡ true → within_limits (cond b None o) ≡ true
limits_by true o e = refl
limits_by false o e = e

pub limits_after : (o : Option Heading) (c : ℕ) → within_limits o ≡ true → within_limits (first_heading (phase_of o c)) ≡ true
limits_after o c e = ap within_limits (heading_of_phase o c) ∙ limits_by (eqb c 0) o e

-- a phase that is right for the cards held is the one that they lead to
pub settled : (p : Phase) (c : ℕ) → in_phase p c ≡ true → p ≡ phase_of (first_heading p) c
settled Empty c e = refl
settled (Gathering h) c e =
    let a = and_parts (ltb 0 c) (ltb c h.t) e in
    sym
    (ap (λ b. cond b Empty (cond (ltb c h.t) (Gathering h) (Ready h))) (ne_eqb c 0 (omega (arith, ltb-true 0 c a.0)))
    ∙ ap (λ b. cond b (Gathering h) (Ready h)) a.1)
settled (Ready h) c e =
    let a = and_parts (ltb 0 c) (leb h.t c) e in
    sym
    (ap (λ b. cond b Empty (cond (ltb c h.t) (Gathering h) (Ready h))) (ne_eqb c 0 (omega (arith, ltb-true 0 c a.0)))
    ∙ ap (λ b. cond b (Gathering h) (Ready h)) (le-ltb c h.t (leb-true h.t c a.1)))
