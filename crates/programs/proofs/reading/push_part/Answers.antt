-- The numbers of a part stand behind those that were there.
use Rattle.std.proofs.Common.{rules}
use Rattle.std.proofs.lemmas.Iterator.Adapters.{items_from_extend}
use Rattle.std.proofs.lemmas.Iterator.Consumers.{YieldsList-from_first}
use Rattle.lines.specs.Digits.{spelled}
use Rattle.lines.specs.Parts.{coming}
use Rattle.programs.proofs.reading.push_part.Goals as goal

pub returns : goal.returns
returns c =
    let h = items_from_extend c.extend.result c.extend.ensures.ran (YieldsList-from_first (λ x. x) coming (spelled c.args.part.digits.now) c.numbers.ensures.numbers) in
    search rules
