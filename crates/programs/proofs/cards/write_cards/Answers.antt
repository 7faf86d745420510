-- One card more is written, and its line stands behind the others.
use Rattle.std.proofs.Common.{string_bytes, ◌∙◌}
use Rattle.plan_check.specs.Plans.{vetted_plan}
use Rattle.programs.proofs.Turns.{cards_more}
use Rattle.programs.proofs.cards.write_cards.Goals as goal

pub loop-j-preserved : goal.loop-j-preserved
loop-j-preserved g c =
    let r = c.put_card.ensures in (
      cards_more g.F.Field.ops (vetted_plan c.args.plan.now) c.args.key.now.mark.number c.args.key.now.size c.args.key.now.store.items c.loop-j.j
          (string_bytes c.loop-j.text) (string_bytes c.put_line.new.text) c.mark.result c.threshold-t.result c.cards-n.result c.put_card.new.place
          c.loop-j.invariant.0 c.mark.ensures c.threshold-t.ensures c.cards-n.ensures r.«data» c.in_ok-put_line.ensures,
      r.ready,
      c.put_card.auto.place ∙ c.loop-j.invariant.2,
    )
