-- The library's search finds the first number that is no code.
use Rattle.std.proofs.Common.{◌≡◌, ℕ, ◌<◌, Bool, not, ltb, length, Some, None, Option, IfSome, sym, ap, ◌∙◌, rules, tests}
use Rattle.std.specs.List.{position}
use Rattle.std.proofs.lemmas.Iterator.Consumers.{YieldsList-from_first}
use Rattle.std.proofs.lemmas.Iterator.Search.{position_from_yields_List}
use Rattle.field.specs.Codes.{first}
use Rattle.field.specs.Inverse.{first_passes}
use Rattle.lines.specs.Digits.{spelled}
use Rattle.lines.specs.Parts.{coming}
use Rattle.plan_check.specs.Faults.{no_code}
use Rattle.plan_check.proofs.First.{first_position}
use Rattle.slot.proofs.refuse.first_no_code_in.Goals as goal

found_below : (test : ℕ → Bool) (k : ℕ) (r : Option ℕ) → r ≡ first test k → IfSome r (λ i. i < k)
found_below test k (Some i) e = (first_passes test k i (sym e)).0
found_below test k None e = tt

pub returns : goal.returns
returns g c =
    let ns = spelled c.args.«data».digits.now in
    let o = g.F.Field.ops in
    let value =
    position_from_yields_List (λ b. not (ltb b c.size-size.result)) c.position.new.self _ c.position.result c.position.ensures.ran
    (YieldsList-from_first (λ x. x) coming ns c.numbers.ensures.numbers) (λ x b q k. search (rules, tests))
    ∙ ap (λ size. position (λ b. not (ltb b size)) ns) c.size-size.ensures
    ∙ first_position (λ b. not (ltb b o.size)) ns in
    record { value = value; bound = found_below (no_code o ns) (length ns) c.position.result value }
