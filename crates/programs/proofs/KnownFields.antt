-- The fields that there are keep the laws of a field. Assumes nothing.
use Rattle.field.specs.Codes.{Laws}
use Rattle.field.specs.Known.{operations}
use Rattle.field.specs.declared.known.Known.{Known}
use Rattle.field.specs.declared.known.Known.TheVariants.{Bytes, Modulo97}
use Rattle.field.specs.Bytes.{gf256_laws}
use Rattle.field.specs.Modulo97Lemmas.{gf97_laws}

pub laws_of : (k : Known) → Laws (operations k)
laws_of Bytes = gf256_laws
laws_of Modulo97 = gf97_laws
