-- Each turn of the loop exchanges two numbers of one column.
use Rattle.std.proofs.Common.{arith}
use Rattle.linear.proofs.Entries.{between_swap}
use Rattle.linear.proofs.rows.swap_rows.Goals as goal

pub loop-c-preserved : goal.loop-c-preserved
loop-c-preserved c =
    rw (c.swap.ensures.by_index.3 0)
    (between_swap c.args.width c.args.k c.args.p c.args.m.now c.loop-c.c c.loop-c.m c.loop-c.invariant
    (omega arith) (omega arith) (omega arith) (omega arith))
