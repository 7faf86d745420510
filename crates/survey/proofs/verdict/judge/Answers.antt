-- The place has room for the rows; each way out is the verdict that the checks' answers come to.
use Rattle.std.proofs.Common.{ℕ, ◌-◌, ◌*◌, sym, ap, ◌∙◌}
use Rattle.std.proofs.lemmas.List.{length-take-le, length-replicate}
use Rattle.field.specs.Refusals.{listing}
use Rattle.field.proofs.Limits.{no_fault}
use Rattle.sharing.specs.Scheme.{plan_of}
use Rattle.plan_check.proofs.Faults.{some_none}
use Rattle.survey.specs.declared.verdict.Verdict.TheVariants.{NotAdmitted, Tells, Vetted}
use Rattle.survey.proofs.Judging.{rows_fit, shut, opening, telling, vetted, only_verdict}
use Rattle.survey.proofs.verdict.judge.Goals as goal

pub returns-in-Err : goal.returns-in-Err
returns-in-Err g c =
    let t = c.args.t in
    let n = c.args.n in
    let within = c.if-not-within_limits.ensures in
    absurd
    (some_none (listing c.in-Err.field-0)
    (c.in-Err.ensures.refusal ∙ sym (no_fault t n _ within (length-take-le ((n - t) * t) _ (rows_fit t n (sym within))))))

pub returns-in-Err-admit : goal.returns-in-Err-admit
returns-in-Err-admit g c =
    let laws = g.met.F.Field.lawful in
    let t = c.args.t in
    let n = c.args.n in
    let inside = sym c.if-not-within_limits.ensures in
    let same = c.new.ensures ∙ ap (plan_of t n) c.in_default.ensures.filled in
    let judged =
    shut laws t n inside _ same _ c.in-Err-admit.shut.refusal c.carried.result c.carried.ensures (length-replicate {A = ℕ} 4096 0)
    c.in-Err-admit.ensures.answer
    in
    record { judged = judged; only = only_verdict laws t n (NotAdmitted c.carried.result) judged }

pub returns-in-Ok-vet : goal.returns-in-Ok-vet
returns-in-Ok-vet g c =
    let laws = g.met.F.Field.lawful in
    let t = c.args.t in
    let n = c.args.n in
    let inside = sym c.if-not-within_limits.ensures in
    let same = c.new.ensures ∙ ap (plan_of t n) c.in_default.ensures.filled in
    let opens = opening laws t n inside _ same _ c.in-Ok.ensures.grants in
    let judged = vetted laws t n inside _ (c.in-Ok.ensures.plan ∙ same) _ opens c.in-Ok-vet.ensures.grants in
    record { judged = judged; only = only_verdict laws t n Vetted judged }

pub returns-in-Err-vet : goal.returns-in-Err-vet
returns-in-Err-vet g c =
    let laws = g.met.F.Field.lawful in
    let t = c.args.t in
    let n = c.args.n in
    let inside = sym c.if-not-within_limits.ensures in
    let same = c.new.ensures ∙ ap (plan_of t n) c.in_default.ensures.filled in
    let opens = opening laws t n inside _ same _ c.in-Ok.ensures.grants in
    let judged =
    telling laws t n inside _ (c.in-Ok.ensures.plan ∙ same) _ opens c.in-Err-vet.telling.refusal c.carried-in-Err-vet.result
    c.carried-in-Err-vet.ensures (c.admit.auto.workspace ∙ length-replicate {A = ℕ} 4096 0) c.in-Err-vet.ensures.answer
    in
    record { judged = judged; only = only_verdict laws t n (Tells c.carried-in-Err-vet.result) judged }
