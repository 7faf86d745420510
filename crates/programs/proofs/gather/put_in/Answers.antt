-- What the slot refuses is told with the line that is to blame.
use Rattle.std.proofs.Common.{◌≡◌, Err, rules, sym, refl, ap, ◌∙◌}
use Rattle.slot.specs.Holdings.{holding}
use Rattle.slot.specs.Refusals.{refused}
use Rattle.slot.specs.declared.refusal.SlotRefusal.{SlotRefusal}
use Rattle.programs.specs.Gathering.{Short, at_card}
use Rattle.programs.proofs.Chain.{mapped}
use Rattle.programs.proofs.Inserting.{refused_short}
use Rattle.programs.proofs.gather.put_in.Goals as goal

pub map_err-requires : goal.map_err-requires
map_err-requires g c =
    let short : (e : SlotRefusal) → c.insert.result ≡ Err e → Short e =
    λ e is. refused_short g.F.Field.ops (holding c.args.slot.now.state) c.args.text.now c.requires e (sym c.insert.ensures.refusal ∙ ap refused is)
    in
    λ e is. let h = short e is in search rules

pub returns : goal.returns
returns g c =
    mapped c.insert.result c.map_err.result (λ e. at_card e c.args.line) _ _ (search rules) (search rules)
    (λ v is. (sym c.insert.ensures.refusal ∙ ap refused is, c.insert.ensures.holds))
    (λ e is. (e, sym c.insert.ensures.refusal ∙ ap refused is, refl))
