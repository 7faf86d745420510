-- That a group of t − 1 cards hides exactly if its system has no null vector but zero.
use Rattle.sharing.proofs.Hiding.{hides_exactly}
use Rattle.sharing.proofs.systems.hides_exactly_if.Goals as goal

pub returns : goal.returns
returns g c = hides_exactly g.met.F.Field.lawful
