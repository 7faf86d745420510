-- The rows before r are cleared.
use Rattle.linear.proofs.Clearing.{ClearedTo}
use Rattle.linear.proofs.rows.clear_column.Given as goal

abbrev pub invariant-loop-r : goal.invariant-loop-r
invariant-loop-r g l = ClearedTo g.F.Field.ops l.width l.k l.initial.m l.r l.m
