-- A card as the code holds it while it is put in. Assumes nothing.
--   card_content   the numbers of the line that it was read from
--   card_told      what came of a text, with a card by its numbers
use Rattle.std.specs.Prelude.{ℕ, List, [], ◌∷◌, Ok, Err, Result}
use Rattle.lines.specs.Digits.{spelled}
use Rattle.lines.specs.Lines.{Content}
use Rattle.lines.specs.declared.fault.Fault.{Fault}
use Rattle.lines.specs.declared.kind.Kind.TheVariants as kind
use Rattle.slot.specs.declared.card.Card.{Card}

abbrev pub numbers : Card → List ℕ
numbers c = spelled c.«data».digits.now

abbrev pub card_content : (mark : ℕ) → Card → Content
card_content mark c = record {
  kind = kind.Card;
  fields = mark ∷ c.heading.mark.number ∷ c.heading.t ∷ c.heading.n ∷ c.number ∷ c.heading.size ∷ [];
  numbers = numbers c;
}

abbrev pub card_told : (mark : ℕ) → Result Card Fault → Result Content Fault
card_told mark (Ok c) = Ok (card_content mark c)
card_told mark (Err f) = Err f
