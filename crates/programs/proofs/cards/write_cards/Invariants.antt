-- The cards so far are written, and the next one's turn has come.
use Rattle.std.proofs.Common.{◌≡◌, ◌*◌, map, length, string_bytes}
use Rattle.std.specs.List.{range_with_len}
use Rattle.plan_check.specs.Plans.{vetted_plan}
use Rattle.sharing.specs.Scheme.{card, lanes}
use Rattle.programs.specs.Progress.{Ready}
use Rattle.programs.specs.Texts.{card_line, text_of}
use Rattle.programs.proofs.cards.write_cards.Given as goal

abbrev pub invariant-loop-j : goal.invariant-loop-j
invariant-loop-j g l =
    (string_bytes l.text
    ≡ text_of (map (λ i. card_line g.F.Field.ops.mark l.key.mark.number (vetted_plan l.plan).t (vetted_plan l.plan).n i l.key.size
    (card g.F.Field.ops (vetted_plan l.plan) (lanes (vetted_plan l.plan).t l.key.size) l.key.store.items i)) (range_with_len 0 l.j)))
    × Ready (vetted_plan l.plan) l.key.size l.j l.deal.state
    × (length l.place ≡ (vetted_plan l.plan).t * lanes (vetted_plan l.plan).t l.key.size)
