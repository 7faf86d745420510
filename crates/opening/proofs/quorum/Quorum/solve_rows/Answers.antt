-- Each row that is solved adds its words.
use Rattle.std.proofs.Common.{arith}
use Rattle.opening.specs.Lent.{gathered}
use Rattle.opening.proofs.Summing.{summed_none, summed_more}
use Rattle.opening.proofs.quorum.Quorum.solve_rows.Goals as goal

pub loop-i-init : goal.loop-i-init
loop-i-init g c = summed_none g.F.Field.ops (gathered c.args.self.now) c.args.sums.now c.requires.zeros

pub loop-i-preserved : goal.loop-i-preserved
loop-i-preserved g c =
    summed_more g.F.Field.ops (gathered c.args.self.now) c.loop-i.i c.solve_row.new.matrix c.loop-i.sums
    c.add_words.new.sums c.loop-i.invariant c.in_ok-solve_row.ensures.solved (λ y l. c.add_words.ensures y (omega arith))
