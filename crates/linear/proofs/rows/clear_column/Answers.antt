-- Each turn of the loop clears one row, or passes over the pivot's.
use Rattle.std.proofs.Common.{arith}
use Rattle.std.proofs.lemmas.Grind.{common_steps}
use Rattle.linear.proofs.rows.clear_column.Goals as goal

pub loop-r-preserved : goal.loop-r-preserved
loop-r-preserved g c = λ r x h. grind (arith, common_steps)
