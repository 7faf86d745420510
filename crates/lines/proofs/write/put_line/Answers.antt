-- Kind, fields, data and the closing byte.
use Rattle.std.proofs.Common.{◌≡◌, [], ◌∷◌, ◌++◌, refl}
use lib.Utf8.{encode}
use Rattle.std.proofs.Output.{has_written_of_eq, has_written_append}
use Rattle.lines.specs.Digits.{hex, newline}
use Rattle.lines.specs.Kinds.{kind_number, widths}
use Rattle.lines.specs.Writing.{fields_text, data_text}
use Rattle.lines.proofs.write.put_line.Goals as goal

pub returns : goal.returns
unfolding encode
returns g c p ok =
    let k = c.args.kind in
    let vs = c.args.values.now in
    let close = data_text k c.args.numbers.now ++ (newline ∷ []) in
    let x = c.in_ok-put_byte.ensures p refl in
    let y = c.in_ok-put_fields.ensures x.plain refl in
    let z = c.in_ok-put_data.ensures y.plain refl in
    let w = c.write_char.ensures.writes z.plain ok in
    let e : hex (c.number.result ∷ []) ++ (fields_text c.widths.result.now vs ++ close) ≡ hex (kind_number k ∷ []) ++ (fields_text (widths k) vs ++ close) =
    λ j. hex (c.number.ensures j ∷ []) ++ (fields_text (c.widths.ensures j) vs ++ close) in
    has_written_of_eq g.W.Write.write_str_gives _ _ _ _ e (has_written_append g.W.Write.write_str_gives _ _ _ _ _ x (has_written_append g.W.Write.write_str_gives _ _ _ _ _ y (has_written_append g.W.Write.write_str_gives _ _ _ _ _ z w)))
