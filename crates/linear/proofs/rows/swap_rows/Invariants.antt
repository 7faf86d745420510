-- The columns before c are done.
use Rattle.linear.specs.Pivots.{entry, swapped}
use Rattle.linear.proofs.Entries.{Between}
use Rattle.linear.proofs.rows.swap_rows.Given as goal

abbrev pub invariant-loop-c : goal.invariant-loop-c
invariant-loop-c l = Between l.width l.k l.c l.initial.m (λ r x. entry l.width l.initial.m (swapped l.k l.p r) x) l.m
