-- What both programs promise together, by the lines of their texts. Assumes nothing.
--   line_at     one line of a text
--   front       the first lines of a text
--   chosen      lines of a text, by their numbers
--   GivenBack   the plan's lines and any t cards of a text that was dealt give the key's line of that text back
use Rattle.std.specs.Prelude.{◌≡◌, ℕ, zero, suc, ◌+◌, ◌-◌, ◌<◌, Bool, true, List, [], ◌∷◌, ◌++◌, length, slice_index}
use Rattle.field.specs.declared.known.Known.{Known}
use Rattle.lines.specs.Readers.{line_text}
use Rattle.lines.specs.RoundTrips.{rest}
use Rattle.opening.specs.Answers.{Different}
use Rattle.programs.specs.Answers.Answer.{Grants}
use Rattle.programs.specs.Dealing.{Dealing}
use Rattle.programs.specs.Planning.{PlanLines}

-- line k, from 0, with the byte that closes it
abbrev pub line_at : (k : ℕ) → List ℕ → List ℕ
line_at zero text = line_text text
line_at (suc k) text = line_at k (rest text)

abbrev pub front : (k : ℕ) → List ℕ → List ℕ
front zero text = []
front (suc k) text = line_text text ++ front k (rest text)

-- in the order of the numbers
abbrev pub chosen : List ℕ → List ℕ → List ℕ
chosen [] text = []
chosen (j ∷ js) text = line_at j text ++ chosen js text

-- deal is a text that the dealing program grants, with a plan of t and n, and cards is what it writes. Where text is the plan's
-- lines of deal and then t different lines of cards, in any order, the key's line of deal is written
abbrev pub GivenBack : (text written : List ℕ) → (flag : Bool) → Type 0
GivenBack text written flag =
    (deal cards : List ℕ) (known : Known) (t n : ℕ) (rows more js : List ℕ) → PlanLines known t n rows deal more → Dealing deal (Grants cards)
    → length js ≡ t → ((m : ℕ) → m < length js → slice_index js m < n) → Different js
    → text ≡ front (1 + (n - t)) deal ++ chosen js cards
    → (written ≡ line_at (1 + (n - t)) deal) × (flag ≡ true)
