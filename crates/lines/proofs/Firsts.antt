-- The first fault of a list. Assumes nothing.
use Rattle.std.proofs.Common.{◌≡◌, ℕ, Bool, true, false, cond, List, [], ◌∷◌, ◌++◌, Some, None, Option, refl, ap, ◌∙◌, arith}
use Rattle.lines.specs.Faults.{first}
use Rattle.lines.specs.declared.fault.Fault.{Fault}

module _ (b : Bool) (f : Fault) (xs : List (Bool × Fault)) where
  pub first_next : b ≡ false → first ((b, f) ∷ xs) ≡ first xs
  first_next e = ap (λ v. cond v (Some f) (first xs)) e

-- the first of two, if there is one
abbrev pub either : Option Fault → Option Fault → Option Fault
either None p = p
either (Some f) p = Some f

cond_either : (b : Bool) (f : Fault) (o p : Option Fault) → cond b (Some f) (either o p) ≡ either (cond b (Some f) o) p
cond_either true f o p = refl
cond_either false f o p = refl

pub first-append : (xs ys : List (Bool × Fault)) → first (xs ++ ys) ≡ either (first xs) (first ys)
first-append [] ys = refl
first-append (x ∷ xs) ys =
    ap (cond x.0 (Some x.1)) (first-append xs ys) ∙ cond_either x.0 x.1 (first xs) (first ys)

-- no fault at all
pub first-clear : (b : Bool) (f : Fault) (xs : List (Bool × Fault)) → first ((b, f) ∷ xs) ≡ None → (b ≡ false) × (first xs ≡ None)
first-clear true f xs e = let z : ◌≡◌ {A = ℕ} 0 1 = cc in absurd (omega arith)
first-clear false f xs e = (refl, e)
