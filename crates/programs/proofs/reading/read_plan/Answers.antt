-- A mark that was wanted is that of a field.
use Rattle.programs.proofs.Heads.{marked, plan-kept}
use Rattle.programs.proofs.reading.read_plan.Goals as goal

pub unreachable-requires-in_default-try_from : goal.unreachable-requires-in_default-try_from
unreachable-requires-in_default-try_from c =
    let kept = plan-kept c.known_plan.result c.known_plan.ensures.wants c.in_ok-field.field-0 c.in-Plan.field c.in-Plan.t c.in-Plan.n c.in-Plan.is c.in_ok-field.ensures.kept in
    marked c.in-Plan.field kept.0 c.in_default-try_from.ensures.1
