-- A plan as the code lends it to a call. Assumes nothing.
--   lent_plan   the plan of such a value
use Rattle.sharing.specs.declared.plan.LentPlan.{LentPlan}
use Rattle.sharing.specs.Scheme.{Plan, plan_of}

abbrev pub lent_plan : LentPlan → Plan
lent_plan p = plan_of p.t p.n p.rows.now
