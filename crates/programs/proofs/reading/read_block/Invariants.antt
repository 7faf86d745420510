-- The lines so far make a block.
use Rattle.std.proofs.Common.{◌≡◌, ℕ, List, ◌++◌, vec_items}
use Rattle.lines.specs.Lines.{kind_of}
use Rattle.lines.specs.Readers.{left, standing}
use Rattle.programs.specs.Texts.{Block, width}
use Rattle.programs.proofs.reading.read_block.Given as goal

abbrev pub invariant-loop-i : goal.invariant-loop-i
invariant-loop-i l =
    (xs : List ℕ) × (vec_items l.numbers ≡ vec_items l.initial.numbers ++ xs)
    × Block (kind_of l.wanted) (width l.wanted) l.i (left (standing l.initial.reader)) xs (left (standing l.reader))
