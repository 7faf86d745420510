-- The plan that is lent on is the one that was handed in; the answer is the only one, and gives a deal's key back.
use Rattle.std.proofs.Common.{length, subst}
use Rattle.opening.specs.Answers.{Answered}
use Rattle.opening.proofs.GivingBack.{gives_back}
use Rattle.opening.proofs.OneAnswer.{only_answer}
use Rattle.opening.proofs.open.Goals as goal

pub returns : goal.returns
returns g c =
    let a = c.args in
    let plan = g.P.Checked.plan a.plan.now in
    let answer =
    subst
    (λ p.
    Answered g.F.Field.ops p a.cards.now a.data.now a.key_length a.key.now c.open_cards.new.key
    (length a.workspace.now) c.open_cards.result)
    c.lent.ensures c.open_cards.ensures.answer
    in
    record {
      answer = answer;
      zeros = c.open_cards.ensures.zeros;
      only =
          only_answer g.F.Field.ops plan a.cards.now a.data.now a.key_length a.key.now c.open_cards.new.key
          (length a.workspace.now) c.open_cards.result answer;
      deals =
          gives_back g.met.F.Field.lawful plan a.cards.now a.data.now a.key_length a.key.now c.open_cards.new.key
          (length a.workspace.now) c.open_cards.result answer;
    }
