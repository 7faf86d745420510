-- As many cards as turns were taken.
use Rattle.lines.specs.Readers.{left, standing}
use Rattle.programs.specs.Gathering.{Taken}
use Rattle.slot.specs.Holdings.{holding}
use Rattle.programs.proofs.gather.gather.Given as goal

abbrev pub invariant-loop-k : goal.invariant-loop-k
invariant-loop-k g l =
    Taken g.F.Field.ops l.k (left (standing l.initial.reader)) (holding l.slot.state) (left (standing l.reader))
