-- The products compute.
use Rattle.std.proofs.Common.{refl}
use Rattle.field.specs.Polynomials.{times, reduce}
use Rattle.field.proofs.known.worked_products.Goals as goal

pub returns : goal.returns
unfolding times reduce
returns c = record { number = refl; hold = (refl, (refl, (refl, tt))) }
