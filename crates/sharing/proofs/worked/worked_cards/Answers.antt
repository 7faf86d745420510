-- The cards compute.
use Rattle.std.proofs.Common.{refl}
use Rattle.field.specs.Codes.{sum}
use Rattle.field.specs.Polynomials.{times, reduce}
use Rattle.sharing.proofs.worked.worked_cards.Goals as goal

pub returns : goal.returns
unfolding sum times reduce
returns c = record { number = refl; hold = (refl, (refl, (refl, tt))) }
