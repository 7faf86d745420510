-- The columns before c are done.
use Rattle.std.proofs.Common.{cond, eqb}
use Rattle.linear.specs.Pivots.{entry}
use Rattle.linear.proofs.Entries.{Between}
use Rattle.linear.proofs.rows.scale_row.Given as goal

abbrev pub invariant-loop-c : goal.invariant-loop-c
invariant-loop-c g l =
    let s = l.initial.m in
    Between l.width l.k l.c s (λ r x. cond (eqb r l.k) (g.F.Field.ops.mul l.d (entry l.width s r x)) (entry l.width s r x)) l.m
