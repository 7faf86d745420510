-- The library's search finds the first number that is not zero.
use Rattle.std.proofs.Common.{◌≡◌, not, eqb, drop, ap, ◌+◌, ◌∙◌, rules, tests}
use Rattle.std.specs.List.{position}
use Rattle.std.specs.Option.{option_map}
use Rattle.std.proofs.lemmas.Iterator.{YieldsList-from_slice}
use Rattle.std.proofs.lemmas.Iterator.Adapters.{YieldsList-from_skip}
use Rattle.std.proofs.lemmas.Iterator.Search.{position_from_yields_List}
use Rattle.plan_check.proofs.First.{first_position_from}
use Rattle.plan_check.proofs.fault.first_not_zero.Goals as goal

pub returns : goal.returns
returns c =
    let found : c.position.result ≡ position (λ x. not (eqb x 0)) (drop c.args.from c.args.numbers.now) =
    position_from_yields_List (λ x. not (eqb x 0)) _ _ c.position.result c.position.ensures.ran
    (YieldsList-from_skip c.args.from (YieldsList-from_slice c.args.numbers.now cc) cc) (λ x b q k. search (rules, tests))
    in
    let mapped : c.map.result ≡ option_map (λ i. c.args.from + i) c.position.result = search rules in
    mapped ∙ ap (option_map (λ i. c.args.from + i)) found ∙ first_position_from (λ x. not (eqb x 0)) c.args.numbers.now c.args.from
