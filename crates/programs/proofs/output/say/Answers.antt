-- A refusal is written as its line.
use Rattle.std.proofs.Common.{◌≡◌, rules, string_bytes, sym, refl, ap, ◌∙◌, subst}
use Rattle.lines.specs.Writing.{written}
use Rattle.programs.specs.Answers.{Refusing, Says, noticed}
use Rattle.programs.specs.Answers.Answer.{Grants}
use Rattle.programs.specs.declared.stop.Stop.TheVariants.{Refused}
use Rattle.programs.proofs.output.say.Goals as goal

pub returns-in_ok-text-in-Err-Refused : goal.returns-in_ok-text-in-Err-Refused
returns-in_ok-text-in-Err-Refused c =
    let a = noticed c.in-Err-Refused.notice in
    let refused : c.in-Err-Refused.field-0 ≡ Refused c.in-Err-Refused.notice = search rules in (
      a,
      subst (λ r. Says string_bytes r a) (sym c.in-Err-Refused.is) (subst (λ s. Refusing s a) (sym refused) refl),
      c.in_ok-text-in-Err-Refused.ensures.bytes ∙ ap written c.refusal_entry.ensures,
      refl,
    )

pub returns-in-Ok : goal.returns-in-Ok
returns-in-Ok c = (Grants (string_bytes c.in-Ok.text), rw c.in-Ok.is refl, refl, refl)
