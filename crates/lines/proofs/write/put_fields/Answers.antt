-- One field after the other.
use Rattle.std.proofs.Common.{◌≡◌, ◌∷◌, ◌++◌, length, take, sym, refl, ap, ◌∙◌}
use lib.Utf8.{encode}
use Rattle.std.proofs.Output.{has_written_of_eq, has_written_append}
use Rattle.std.proofs.lemmas.List.{length_push}
use Rattle.std.proofs.lemmas.Slice.Zip.{zip_turn}
use Rattle.std.specs.Iterator.Adapters.{zip_first, zip_second}
use Rattle.std.specs.Slice.Iter.{iter_rest}
use Rattle.lines.specs.Digits.{hex, wide, space}
use Rattle.lines.specs.Writing.{fields_text}
use Rattle.lines.proofs.Texts.{fields_text_more}
use Rattle.lines.proofs.write.put_fields.Goals as goal

pub loop-width-preserved : goal.loop-width-preserved
unfolding encode
loop-width-preserved g c p =
    let ws = c.args.widths.now in
    let vs = c.args.values.now in
    let i = length c.loop-width.yielded in
    let s = c.into_iter-width-iterator.result in
    let it = c.into_iter-width-iterator.ensures.into_iter_gives in
    let first : iter_rest (zip_first s) ≡ ws = ap (λ z. iter_rest (zip_first z)) it ∙ ap iter_rest c.zip-width-items.ensures.first ∙ c.iter.ensures.rest in
    let second : iter_rest (zip_second s) ≡ vs = ap (λ z. iter_rest (zip_second z)) it ∙ c.zip-width-items.ensures.second.0 in
    let turn = zip_turn ws vs c.loop-width.yielded s c.loop-width.width-iterator c.next.new.self c.next.result first second c.loop-width.yielded_by (c.in-Some.width, c.in-Some.value) c.in-Some.is c.next.ensures.steps in
    let x = c.loop-width.invariant p in
    let y = c.in_ok-write_char.ensures.writes x.plain refl in
    let z = c.in_ok-put_number.ensures y.plain refl in
    let n = length_push c.loop-width.yielded (c.in-Some.width, c.in-Some.value) in
    let e =
    (λ j. fields_text (take i ws) (take i vs) ++ (space ∷ hex (wide (turn.2 0 j) (turn.3 0 j)))) ∙
    sym (fields_text_more ws vs i turn.0 c.requires) ∙
    (λ j. fields_text (take (sym n j) ws) (take (sym n j) vs)) in
    has_written_of_eq g.W.Write.write_str_gives _ _ _ _ e (has_written_append g.W.Write.write_str_gives _ _ _ _ _ x (has_written_append g.W.Write.write_str_gives _ _ _ _ _ y z))
