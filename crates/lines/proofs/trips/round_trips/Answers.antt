-- The two theorems.
use Rattle.lines.proofs.Rereading.{rereads}
use Rattle.lines.proofs.Rewriting.{rewrites}
use Rattle.lines.proofs.trips.round_trips.Goals as goal

pub returns : goal.returns
returns c = record { rewrites = rewrites; rereads = rereads }
