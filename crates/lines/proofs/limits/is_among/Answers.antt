-- One mark after the other.
use Rattle.std.proofs.Common.{◌≡◌, ℕ, eqb, ◌||◌, List, [], ◌∷◌, refl, ◌∙◌, arith}
use Rattle.std.proofs.lemmas.Bool.Decides.{nat_tests}
use Rattle.std.specs.List.{list_any}
use Rattle.lines.specs.Lines.{among}
use Rattle.lines.proofs.limits.is_among.Goals as goal

swapped : (x y : ℕ) → eqb x y ≡ eqb y x
swapped x y = grind (arith, nat_tests)

any_is : (m : ℕ) (ms : List ℕ) → list_any (λ y. eqb y m) ms ≡ among m ms
any_is m [] = refl
any_is m (x ∷ ms) = λ i. swapped x m i || any_is m ms i

pub returns : goal.returns
returns c = c.contains.ensures.value ∙ any_is c.args.mark c.args.marks.now
