-- What is said is an answer to the text, and so the only one.
use Rattle.std.proofs.Common.{string_bytes, sym}
use mathlib.Core.Path.{transport}
use Rattle.std.proofs.lemmas.Result.{IfOk-weaker}
use Rattle.programs.specs.Answers.{Answer, Says}
use Rattle.programs.specs.Joint.{GivenBack}
use Rattle.programs.specs.Opening.{Opening}
use Rattle.programs.proofs.Chain.{said}
use Rattle.programs.proofs.Joint.{given_back}
use Rattle.programs.proofs.OnlyOpening.{only_opening}
use Rattle.programs.proofs.returning.open_cards.Goals as goal

pub returns : goal.returns
returns c =
    let text = c.args.text.now in
    let opening = λ (a : Answer) (w : Says string_bytes c.open_text.result a). said string_bytes c.open_text.result (λ b. Opening text b) a c.open_text.ensures w in
    record {
      answer = IfOk-weaker c.say.result _ _ (λ o s. (s.0, opening s.0 s.1, s.2, s.3)) c.say.ensures;
      only = IfOk-weaker c.say.result _ _ (λ o s. only_opening text s.0 (string_bytes o.text) o.granted (opening s.0 s.1) s.2 s.3) c.say.ensures;
      returns = IfOk-weaker c.say.result _ _
          (λ o s. transport (λ i. GivenBack text (sym s.2 i) (sym s.3 i)) (given_back text s.0 (opening s.0 s.1))) c.say.ensures;
    }
