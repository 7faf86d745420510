-- The fields that there are, by the mark that a line of text names one with, and some of their products worked out.
-- Assumes nothing.
--   operations       the operations of each field
--   Names            the field that a mark names, or that there is none
--   worked_products  products that were worked out by hand
--   Hold             each of a list of products is what it is said to be
use Rattle.std.specs.Prelude.{◌≡◌, ◌≢◌, ℕ, Result, MatchResult, List, [], ◌∷◌}
use Rattle.field.specs.Codes.{Operations}
use Rattle.field.specs.Modulo97.{gf97}
use Rattle.field.specs.Polynomials.{gf256}
use Rattle.field.specs.declared.known.Known.{Known}
use Rattle.field.specs.declared.known.Known.TheVariants.{Bytes, Modulo97}
use Rattle.field.specs.declared.known.UnknownMark.{UnknownMark}

abbrev pub operations : Known → Operations
operations Bytes = gf256
operations Modulo97 = gf97

-- the mark of the field that comes is the mark given; an error keeps the mark, and comes only if no field has it
abbrev pub Names : ℕ → Result Known UnknownMark → Type 0
Names mark r =
    MatchResult r (λ k. (operations k).mark ≡ mark) (λ e. (e.0 ≡ mark) × ((k : Known) → (operations k).mark ≢ mark))

-- a field, two numbers and their product
abbrev pub Product : Type 0
Product = Known × ℕ × ℕ × ℕ

abbrev pub Hold : List Product → Type 0
Hold [] = Unit {0}
Hold (w ∷ rest) = ((operations w.0).mul w.1 w.2 ≡ w.3) × Hold rest

abbrev pub worked_products : List Product
worked_products = (Bytes, 0x02, 0x8D, 0x01) ∷ (Bytes, 0x03, 0xF6, 0x01) ∷ (Modulo97, 2, 49, 1) ∷ []
