-- Capital hexadecimal digits, two to a byte, and the bytes of a line. Assumes nothing.
use Rattle.std.specs.Prelude.{ℕ, zero, suc, ◌+◌, ◌-◌, ◌*◌, ◌/◌, ◌%◌, Bool, cond, not, ◌&&◌, ◌||◌, List, [], ◌∷◌, ◌++◌, ◌==◌, nat_le, nat_lt}
use Rattle.std.specs.Int.Digits.{number_from_digits}

-- the byte that closes a line, and the byte between two fields
abbrev pub newline : ℕ
newline = 0x0A

abbrev pub space : ℕ
space = 0x20

-- 0 to 9 or A to F
abbrev pub is_digit : ℕ → Bool
is_digit b = (nat_le 0x30 b && nat_le b 0x39) || (nat_le 0x41 b && nat_le b 0x46)

-- the value of a digit; 0 for any other byte
abbrev pub digit_value : ℕ → ℕ
digit_value b = cond (nat_le 0x30 b && nat_le b 0x39) (b - 0x30) (cond (nat_le 0x41 b && nat_le b 0x46) (b - 0x37) 0)

-- the digit of a value below 16
abbrev pub digit_of : ℕ → ℕ
digit_of d = cond (nat_lt d 10) (0x30 + d) (0x37 + d)

-- the bytes that stand in a line: all but the one that closes it
abbrev pub is_inline : ℕ → Bool
is_inline b = not (b == newline)

-- the bytes that may stand in a line: digits and spaces
abbrev pub is_sound : ℕ → Bool
is_sound b = is_digit b || b == space

-- the digits of bytes, two each, the higher first
abbrev pub hex : List ℕ → List ℕ
hex [] = []
hex (n ∷ ns) = digit_of (n / 16) ∷ digit_of (n % 16) ∷ hex ns

-- the bytes that digits spell, two digits each; a last single digit spells none
abbrev pub spelled : List ℕ → List ℕ
spelled [] = []
spelled (a ∷ []) = []
spelled (a ∷ b ∷ ds) = (digit_value a * 16 + digit_value b) ∷ spelled ds

-- the number that bytes make, the highest first
abbrev pub numeral : List ℕ → ℕ
numeral bs = number_from_digits 256 bs

-- the lowest w bytes of a number, the highest first
abbrev pub wide : ℕ → ℕ → List ℕ
wide zero n = []
wide (suc w) n = wide w (n / 256) ++ (n % 256 ∷ [])
