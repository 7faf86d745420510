-- One byte after the other.
use Rattle.std.proofs.Common.{[], ◌∷◌, get_or, take, sym, refl, ap, ◌∙◌}
use Rattle.std.proofs.Output.{has_written_of_eq, has_written_append}
use Rattle.std.proofs.lemmas.List.{take_more}
use Rattle.lines.specs.Digits.{hex}
use Rattle.lines.proofs.Spelling.{hex-append}
use Rattle.lines.proofs.hex.put_bytes.Goals as goal

pub loop-byte-preserved : goal.loop-byte-preserved
loop-byte-preserved g c p =
    let bs = c.args.bytes.now in
    let i = c.loop-byte.byte-index in
    let x = c.loop-byte.invariant p in
    let y = c.in_ok-put_byte.ensures x.plain refl in
    let e = ap hex (take_more bs i 0 c.loop-byte-test.true) ∙ hex-append (take i bs) (get_or bs i 0 ∷ []) in
    has_written_of_eq g.W.Write.write_str_gives _ _ _ _ (sym e) (has_written_append g.W.Write.write_str_gives _ _ _ _ _ x y)
