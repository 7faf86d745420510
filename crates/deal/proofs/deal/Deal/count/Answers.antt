-- Each chain counts the cards of the deal that pass one test.
use Rattle.std.proofs.Common.{◌≡◌, ◌≤◌, length, take, filter, ◌∙◌, rules, arith}
use Rattle.std.proofs.lemmas.Iterator.{YieldsList-from_slice}
use Rattle.std.proofs.lemmas.Iterator.Consumers.{count_from_yields_List, YieldsList-from_filter}
use Rattle.field.proofs.Limits.{within-parts}
use Rattle.deal.specs.Calls.{is_out, is_written}
use Rattle.deal.specs.Calls.Answer.{Counts}
use Rattle.deal.proofs.Cards.{tally_front}
use Rattle.deal.proofs.deal.Deal.count.Goals as goal

pub returns : goal.returns
returns c =
    let self = c.args.self.now in
    let d = self.state in
    let fits : d.n ≤ length d.cards = omega (arith, self.long, (within-parts d.t d.n self.limits).2) in
    let outs : c.count-out.result ≡ length (filter is_out (take d.n d.cards)) =
    count_from_yields_List c.filter.result c.count-out.result c.count-out.ensures.ran
    (YieldsList-from_filter _ is_out (YieldsList-from_slice (take d.n d.cards) (search rules)) c.filter.ensures.closure (λ x b q k. search rules)) in
    let writes : c.count-written.result ≡ length (filter is_written (take d.n d.cards)) =
    count_from_yields_List c.filter-2.result c.count-written.result c.count-written.ensures.ran
    (YieldsList-from_filter _ is_written (YieldsList-from_slice (take d.n d.cards) (search rules)) c.filter-2.ensures.closure (λ x b q k. search rules)) in
    λ i. Counts ((outs ∙ tally_front is_out d.cards d.n fits) i) ((writes ∙ tally_front is_written d.cards d.n fits) i) d.spoiled
