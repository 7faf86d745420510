-- The field of the numbers modulo 97. Assumes nothing.
use Rattle.std.specs.Prelude.{◌+◌, ◌-◌, ◌*◌, ◌%◌}
use Rattle.field.specs.Codes.{Operations}
use Rattle.field.specs.Guard.{guarded}

-- the opposite of 0 is 0, that of another code is what is missing to 97
abbrev pub gf97 : Operations
gf97 = guarded 2 97 (λ a b. (a + b) % 97) (λ a. (97 - a) % 97) (λ a b. (a * b) % 97)
