-- What is proved of the checks and of a deal, put together.
use Rattle.std.proofs.Common.{arith}
use Rattle.plan_check.specs.declared.property.Property.TheVariants.{Opening, Hiding}
use Rattle.plan_check.proofs.Answering.{grants, only_answer}
use Rattle.deal.proofs.Laws.{deal_laws}
use Rattle.deal.proofs.begin.card_set_law.Goals as goal

pub returns : goal.returns
returns g c =
    let o = g.F.Field.ops in
    record {
      admits = grants Opening o;
      admits_only = only_answer Opening o;
      vets = grants Hiding o;
      vets_only = only_answer Hiding o;
      deals = deal_laws o (omega (arith, g.met.F.Field.lawful.size_least));
    }
