-- What the rows so far add to the key is summed.
use Rattle.opening.specs.Lent.{gathered}
use Rattle.opening.specs.Quorums.{Summed}
use Rattle.opening.proofs.quorum.Quorum.solve_rows.Given as goal

abbrev pub invariant-loop-i : goal.invariant-loop-i
invariant-loop-i g l = Summed g.F.Field.ops (gathered l.self) l.i l.sums
