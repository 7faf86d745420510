-- What is said is an answer to the text, and so the only one.
use Rattle.std.proofs.Common.{string_bytes}
use Rattle.std.proofs.lemmas.Result.{IfOk-weaker}
use Rattle.programs.specs.Answers.{Answer, Says}
use Rattle.programs.specs.Dealing.{Dealing}
use Rattle.programs.proofs.Chain.{said}
use Rattle.programs.proofs.OnlyDealing.{only_dealing}
use Rattle.programs.proofs.dealing.deal_cards.Goals as goal

pub returns : goal.returns
returns c =
    let text = c.args.text.now in
    let dealing = λ (a : Answer) (w : Says string_bytes c.deal_text.result a). said string_bytes c.deal_text.result (λ b. Dealing text b) a c.deal_text.ensures w in
    record {
      answer = IfOk-weaker c.say.result _ _ (λ o s. (s.0, dealing s.0 s.1, s.2, s.3)) c.say.ensures;
      only = IfOk-weaker c.say.result _ _ (λ o s. only_dealing text s.0 (string_bytes o.text) o.granted (dealing s.0 s.1) s.2 s.3) c.say.ensures;
    }
