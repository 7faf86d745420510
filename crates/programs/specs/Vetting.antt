-- What the programs answer to a plan that they read. Assumes nothing.
--   room        how many bytes a program lends to a check
--   Passed      a plan that is sound, admitted and vetted
--   Fit         a plan that is sound and admitted
--   Unadmitted  the answer to a plan that is not admitted
--   Unvetted    the answer to a plan that is not admitted or not vetted
use Rattle.std.specs.Prelude.{◌≡◌, ℕ, Some}
use Rattle.field.specs.Codes.{Operations}
use Rattle.sharing.specs.Scheme.{Plan, Sound}
use Rattle.sharing.specs.Secrecy.{Admits, Vets}
use Rattle.plan_check.specs.Checks.{Allowed}
use Rattle.plan_check.specs.declared.property.Property.TheVariants.{Opening, Hiding}
use Rattle.programs.specs.Answers.{Answer, no_line}
use Rattle.programs.specs.Answers.Answer.{Refuses}

abbrev pub room : ℕ
room = 4096

pub record Passed (o : Operations) (p : Plan) : Type 0 where
  pub sound : Sound o p
  pub admits : Admits o p
  pub vets : Vets o p

pub record Fit (o : Operations) (p : Plan) : Type 0 where
  pub sound : Sound o p
  pub admits : Admits o p

-- the refusal of Admit
abbrev pub Unadmitted : Operations → Plan → Answer → Type 0
Unadmitted o p a = (r : ℕ × ℕ) × Allowed Opening o p room (Some r) × (a ≡ Refuses r.0 r.1 no_line)

-- the refusal of Admit; or, of a plan that is admitted, the refusal of Vet
pub data Unvetted (o : Operations) (p : Plan) (a : Answer) : Type 0 where
  not_admitted : (r : ℕ × ℕ) → Allowed Opening o p room (Some r) → a ≡ Refuses r.0 r.1 no_line → Unvetted o p a
  not_vetted : (r : ℕ × ℕ) → Sound o p → Admits o p → Allowed Hiding o p room (Some r)
      → a ≡ Refuses r.0 r.1 no_line → Unvetted o p a
