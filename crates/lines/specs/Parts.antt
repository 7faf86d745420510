-- The numbers of a field that are still to come. Assumes nothing.
use Rattle.std.specs.Prelude.{ℕ, List}
use Rattle.lines.specs.Digits.{spelled}
use Rattle.lines.specs.declared.part.Numbers.{Numbers}

-- what the digits that are left spell
abbrev pub coming : Numbers → List ℕ
coming n = spelled n.digits.now
