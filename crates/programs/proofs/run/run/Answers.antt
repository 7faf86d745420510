-- A program that ends well was granted.
use Rattle.std.proofs.Common.{rules, sym}
use Rattle.programs.proofs.run.run.Goals as goal

pub returns-2 : goal.returns-2
returns-2 g c =
    (c.alloc.result, c.deref.result, c.in_ok-output.output, rw (sym c.in_ok-output.was) c.program.ensures, search rules)
