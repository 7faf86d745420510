-- What is read and written again, and what is written and read again. Assumes nothing.
use Rattle.std.specs.Prelude.{◌≡◌, ℕ, ◌+◌, ◌^◌, ◌<◌, List, [], ◌∷◌, ◌++◌, length, drop, Ok, nat_lt}
use Rattle.std.specs.Int.Digits.{AllBelowBase}
use Rattle.lines.specs.Digits.{newline}
use Rattle.lines.specs.Kinds.{widths, has_data}
use Rattle.lines.specs.Lines.{Content, head, kind_of, reading, judged}
use Rattle.lines.specs.Writing.{written}
use Rattle.lines.specs.declared.wanted.Wanted.{Wanted}

-- there is a number for each width, and it fits
abbrev pub Fits : List ℕ → List ℕ → Type 0
Fits [] [] = Unit {0}
Fits [] (v ∷ vs) = ⊥
Fits (w ∷ ws) [] = ⊥
Fits (w ∷ ws) (v ∷ vs) = (v < 256 ^ w) × Fits ws vs

-- numbers that a line of their kind has room for: each field fits its width, data is bytes, and is there exactly if the kind has data
pub record Fitting (c : Content) : Type 0 where
  pub fields : Fits (widths c.kind) c.fields
  pub numbers : AllBelowBase 256 c.numbers
  pub some : has_data c.kind ≡ nat_lt 0 (length c.numbers)

-- what comes after the line at the head of a text
abbrev pub rest : List ℕ → List ℕ
rest text = drop (length (head text) + 1) text

-- a line that is read and written again is the same line, byte for byte
abbrev pub Rewrites : Type 0
Rewrites = (w : Wanted) (text : List ℕ) (c : Content) → reading w text ≡ Ok c → (written c ≡ head text ++ (newline ∷ [])) × (written c ++ rest text ≡ text)

-- these numbers, written and read again, are the same numbers, judged by their limits; what follows is left
abbrev pub Again : Content → Type 0
Again c = (w : Wanted) (more : List ℕ) → kind_of w ≡ c.kind → Fitting c → (reading w (written c ++ more) ≡ judged w c) × (rest (written c ++ more) ≡ more)

-- so it is with all numbers
abbrev pub Rereads : Type 0
Rereads = (c : Content) → Again c
