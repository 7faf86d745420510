-- The widths that are left fit the text that is left exactly if all fit all.
use Rattle.std.proofs.Common.{◌≡◌, drop}
use Rattle.lines.specs.Shapes.{shaped}
use Rattle.lines.proofs.shape.is_shaped.Given as goal

abbrev pub invariant-loop-width : goal.invariant-loop-width
invariant-loop-width l = shaped (drop l.width-index l.widths) l.«data» l.rest ≡ shaped l.widths l.«data» l.text
