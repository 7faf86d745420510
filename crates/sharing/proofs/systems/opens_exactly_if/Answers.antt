-- That a group of t cards opens exactly if its systems have no null vector but zero.
use Rattle.sharing.proofs.OneWord.{opens_exactly}
use Rattle.sharing.proofs.systems.opens_exactly_if.Goals as goal

pub returns : goal.returns
returns g c = opens_exactly g.met.F.Field.lawful
