-- A call's table read line by line. Assumes nothing.
use Rattle.std.proofs.Common.{◌≡◌, ℕ, Bool, true, false, List, [], ◌∷◌, refl}
use Rattle.field.specs.Refusals.{Rule}
use Rattle.deal.specs.Calls.{Answer, answered}
use Rattle.deal.specs.Calls.Answer.{Refused}

-- the first line applies and is the answer, or it does not and the rest of the table decides
by-line : (P : Answer → Type 0) (number carries : ℕ) (b : Bool) (rest : List Rule) (granted : Answer)
    → (b ≡ true → P (Refused number carries)) → (b ≡ false → P (answered rest granted))
    → P (answered ((number, b, carries) ∷ rest) granted)
by-line P number carries true rest granted applies not_so = applies refl
by-line P number carries false rest granted applies not_so = not_so refl

-- P of each line's refusal where the line applies, and of what is granted where none does
abbrev pub Ways : (Answer → Type 0) → List Rule → Answer → Type 0
Ways P [] granted = P granted
Ways P (r ∷ rest) granted = (r.1 ≡ true → P (Refused r.0 r.2)) × (r.1 ≡ false → Ways P rest granted)

pub by-table : (P : Answer → Type 0) (rules : List Rule) (granted : Answer) → Ways P rules granted → P (answered rules granted)
by-table P [] granted ways = ways
by-table P (r ∷ rest) granted ways =
    by-line P r.0 r.2 r.1 rest granted ways.0 (λ e. by-table P rest granted (ways.1 e))
