-- The columns before c are done.
use Rattle.std.proofs.Common.{cond, eqb}
use Rattle.linear.specs.Pivots.{entry}
use Rattle.linear.proofs.Entries.{Between}
use Rattle.linear.proofs.rows.add_row.Given as goal

abbrev pub invariant-loop-c : goal.invariant-loop-c
invariant-loop-c g l =
    let o = g.F.Field.ops in
    let s = l.initial.m in
    let w = l.width in
    Between w l.k l.c s
    (λ r x. cond (eqb r l.q) (o.add (entry w s r x) (o.mul l.d (entry w s l.k x))) (entry w s r x)) l.m
