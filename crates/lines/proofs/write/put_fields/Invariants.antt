-- The fields so far were written.
use Rattle.std.proofs.Common.{length, take}
use Rattle.std.specs.Fmt.{IsPlainFormatter, HasWritten}
use Rattle.lines.specs.Writing.{fields_text}
use Rattle.lines.proofs.write.put_fields.Given as goal

abbrev pub invariant-loop-width : goal.invariant-loop-width
invariant-loop-width g l = IsPlainFormatter l.initial.f → HasWritten g.W.Write.write_str_gives l.initial.f (fields_text (take (length l.yielded) l.widths) (take (length l.yielded) l.values)) l.f
