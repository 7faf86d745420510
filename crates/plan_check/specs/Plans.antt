-- The plan that a value of the code stands for, in each of its three states, and what an answer of Admit or Vet holds.
-- Assumes nothing.
--   drafted_plan, admitted_plan, vetted_plan   the plan of a value
--   answered   the number and the carried value of a refusal; none where the plan is granted
--   kept       the plan that an answer hands back: the one granted, or the one refused
use Rattle.std.specs.Prelude.{ℕ, Some, None, Ok, Err, Option, Result}
use Rattle.field.specs.Refusals.{listing}
use Rattle.sharing.specs.Lent.{lent_plan}
use Rattle.sharing.specs.Scheme.{Plan}
use Rattle.plan_check.specs.declared.plan.Drafted.{Drafted}
use Rattle.plan_check.specs.declared.plan.Admitted.{Admitted}
use Rattle.plan_check.specs.declared.plan.Vetted.{Vetted}
use Rattle.plan_check.specs.declared.plan.Refused.{Refused}

abbrev pub drafted_plan : Drafted → Plan
drafted_plan v = lent_plan v.plan

abbrev pub admitted_plan : Admitted → Plan
admitted_plan v = drafted_plan v.draft

abbrev pub vetted_plan : Vetted → Plan
vetted_plan v = admitted_plan v.admitted

abbrev pub answered : {G P : Type 0} → Result G (Refused P) → Option (ℕ × ℕ)
answered (Ok v) = None
answered (Err e) = Some (listing e.refusal)

abbrev pub kept : {G P : Type 0} → (G → Plan) → (P → Plan) → Result G (Refused P) → Plan
kept granted refused (Ok v) = granted v
kept granted refused (Err e) = refused e.plan
