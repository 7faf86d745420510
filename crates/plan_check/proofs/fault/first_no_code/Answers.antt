-- The library's search finds the first byte that is no code.
use Rattle.std.proofs.Common.{not, ltb, ap, ◌∙◌, rules, tests}
use Rattle.std.specs.List.{position}
use Rattle.std.proofs.lemmas.Iterator.{YieldsList-from_slice}
use Rattle.std.proofs.lemmas.Iterator.Search.{position_from_yields_List}
use Rattle.plan_check.proofs.First.{first_position}
use Rattle.plan_check.proofs.fault.first_no_code.Goals as goal

pub returns : goal.returns
returns g c =
    position_from_yields_List (λ b. not (ltb b c.size-size.result)) _ _ c.position.result c.position.ensures.ran
    (YieldsList-from_slice c.args.bytes.now cc) (λ x b q k. search (rules, tests))
    ∙ ap (λ size. position (λ b. not (ltb b size)) c.args.bytes.now) c.size-size.ensures
    ∙ first_position (λ b. not (ltb b g.F.Field.ops.size)) c.args.bytes.now
