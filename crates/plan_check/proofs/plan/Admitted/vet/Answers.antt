-- What the shared examination answers is Vet's answer, whichever it is.
use Rattle.std.proofs.Common.{length, Some, None, refl}
use Rattle.field.specs.Refusals.{listing}
use Rattle.plan_check.specs.declared.property.Property.TheVariants.{Hiding}
use Rattle.plan_check.specs.Plans.{admitted_plan}
use Rattle.plan_check.proofs.Answering.{grants, only_answer}
use Rattle.plan_check.proofs.plan.Admitted.vet.Goals as goal

pub returns-in-Ok : goal.returns-in-Ok
returns-in-Ok g c =
    let p = admitted_plan c.args.self in
    let room = length c.args.workspace.now in
    let allowed = c.in-Ok.ensures.answer in
    record {
      answer = allowed;
      grants = grants Hiding g.F.Field.ops p room None allowed;
      only = only_answer Hiding g.F.Field.ops p room None allowed;
      plan = refl;
      workspace = c.in-Ok.ensures.workspace;
    }

pub returns-in-Err : goal.returns-in-Err
returns-in-Err g c =
    let p = admitted_plan c.args.self in
    let room = length c.args.workspace.now in
    let allowed = c.in-Err.ensures.answer in
    record {
      answer = allowed;
      grants = grants Hiding g.F.Field.ops p room (Some (listing c.in-Err.refusal)) allowed;
      only = only_answer Hiding g.F.Field.ops p room (Some (listing c.in-Err.refusal)) allowed;
      plan = refl;
      workspace = c.in-Err.ensures.workspace;
    }
