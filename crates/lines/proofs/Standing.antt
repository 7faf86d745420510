-- What every reader keeps to. Assumes nothing.
use Rattle.std.proofs.Common.{◌≤◌, length, arith, length-drop}
use Rattle.lines.specs.Readers.{left, longest_text, standing}
use Rattle.lines.specs.declared.reader.Reader.{Reader}

-- what is left of its text is not too long
pub left_short : (r : Reader) → length (left (standing r)) ≤ longest_text
left_short r = omega (arith, r.short, length-drop r.start r.text.now)
