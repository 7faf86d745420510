-- A table none of whose lines applies. Assumes nothing.
--   Clear   no line of a table applies
use Rattle.std.proofs.Common.{◌≡◌, false, List, [], ◌∷◌, None, refl, ◌∙◌}
use Rattle.field.specs.Codes.{Operations}
use Rattle.field.specs.Refusals.{Rule, foremost}
use Rattle.field.proofs.Limits.{passed_over}
use Rattle.sharing.specs.Scheme.{Plan, Sound}
use Rattle.plan_check.specs.Faults.{faults}
use Rattle.plan_check.proofs.Faults.{passed, sound_faultless, faultless_sound}

abbrev pub Clear : List Rule → Type 0
Clear [] = Unit {0}
Clear (r ∷ rest) = (r.1 ≡ false) × Clear rest

pub clear-table : (rules : List Rule) → foremost rules ≡ None → Clear rules
clear-table [] e = tt
clear-table (r ∷ rest) e = let both = passed r rest e in (both.0, clear-table rest both.1)

pub no_refusal : (rules : List Rule) → Clear rules → foremost rules ≡ None
no_refusal [] clear = refl
no_refusal (r ∷ rest) clear = passed_over r.0 r.2 r.1 rest clear.0 ∙ no_refusal rest clear.1

-- a plan without fault is sound, and a sound plan is without fault
pub sound_plan : (o : Operations) (p : Plan) → Clear (faults o p) → Sound o p
sound_plan o p clear = faultless_sound o p (no_refusal (faults o p) clear)

pub faultless : (o : Operations) (p : Plan) → Sound o p → Clear (faults o p)
faultless o p sound = clear-table (faults o p) (sound_faultless o p sound)
