-- The higher bytes, then the last one.
use Rattle.std.proofs.Common.{◌-◌, ◌/◌, ◌%◌, [], ◌∷◌, sym, refl, ap, ◌∙◌, arith}
use Rattle.std.proofs.Output.{has_written_of_eq, has_written_append}
use Rattle.lines.specs.Digits.{hex, wide}
use Rattle.lines.proofs.Spelling.{hex-append, wide_step}
use Rattle.lines.proofs.hex.+put_number.Goals as goal

pub returns : goal.returns
returns g t c p ok =
    let w = c.args.width in
    let n = c.args.value in
    let x = c.in_ok-put_number.ensures p refl in
    let y = c.put_byte.ensures x.plain ok in
    let e = ap hex (wide_step w n (omega arith)) ∙ hex-append (wide (w - 1) (n / 256)) (n % 256 ∷ []) in
    has_written_of_eq g.W.Write.write_str_gives _ _ _ _ (sym e) (has_written_append g.W.Write.write_str_gives _ _ _ _ _ x y)
