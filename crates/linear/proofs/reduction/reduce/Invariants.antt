-- After k columns the slice is a matrix of codes, and the first one under a faithful map that made k unit columns.
use Rattle.linear.specs.Reductions.{Matrix}
use Rattle.linear.proofs.Reducing.{Reducing}
use Rattle.linear.proofs.reduction.reduce.Given as goal

abbrev pub invariant-loop-k : goal.invariant-loop-k
invariant-loop-k g l =
    Matrix g.F.Field.ops l.rows l.width l.m × Reducing g.met.F.Field.lawful l.rows l.width l.k l.initial.m l.m
