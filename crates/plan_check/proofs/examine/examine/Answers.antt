-- What has passed the table is a sound plan.
use Rattle.std.proofs.Common.{sym, ap, ◌∙◌}
use Rattle.field.specs.Refusals.{refused}
use Rattle.sharing.specs.Lent.{lent_plan}
use Rattle.plan_check.proofs.Faults.{faultless_sound}
use Rattle.plan_check.proofs.examine.examine.Goals as goal

pub invariant_of-sound : goal.invariant_of-sound
invariant_of-sound g c = record {
  sound = faultless_sound g.F.Field.ops (lent_plan c.args.plan.now) (sym c.faultless-faultless.ensures ∙ ap refused c.in_ok-faultless.was);
}
