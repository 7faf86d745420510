-- What the dealing program answers to a text. Assumes nothing.
--   Unbegun      the answer to a key and dummy keys of which no deal is begun
--   card_text    the text of one card
--   cards_text   the text of all cards of a deal, lowest first
--   Dealt        the answer to the text after the lines of a vetted plan
--   Examined     the answer to the text after the lines of a plan
--   Dealing      the answer to a text: the first refusal in the order of reading and checking, or the cards
--   OnlyDealing  no other text is written, and the flag is no other
use Rattle.std.specs.Prelude.{◌≡◌, ℕ, ◌+◌, ◌-◌, ◌<◌, ◌≤◌, Bool, List, [], map, length, Some}
use Rattle.std.specs.List.{range_with_len}
use Rattle.field.specs.Codes.{Operations}
use Rattle.field.specs.Known.{operations}
use Rattle.field.specs.Refusals.{foremost}
use Rattle.field.specs.declared.known.Known.{Known}
use Rattle.sharing.specs.Scheme.{Plan, Deal, plan_of, lanes, store, card}
use Rattle.deal.specs.Faults.{begin_rules}
use Rattle.lines.specs.Readers.{longest_text}
use Rattle.lines.specs.Writing.{written}
use Rattle.lines.specs.declared.fault.Fault.{Fault}
use Rattle.lines.specs.declared.kind.Kind.TheVariants as kind
use Rattle.lines.specs.declared.wanted.Wanted.TheVariants as wanted
use Rattle.programs.specs.Answers.{Answer, granted, no_line, at_line, output}
use Rattle.programs.specs.Answers.Answer.{Grants, Refuses}
use Rattle.programs.specs.Vetting.{Passed, Unvetted}
use Rattle.programs.specs.Keys.{KeyLines, Unkeyed}
use Rattle.programs.specs.Texts.{Block, Broken, NoPlan, PlanHead, card_line, text_of}

-- s is the store
abbrev pub Unbegun : Operations → Plan → (L : ℕ) → (s : List ℕ) → Answer → Type 0
Unbegun o p L s a = (r : ℕ × ℕ) × (foremost (begin_rules o p L s) ≡ Some r) × (a ≡ Refuses r.0 r.1 no_line)

abbrev pub card_text : Operations → Plan → (mark L : ℕ) → (s : List ℕ) → (j : ℕ) → List ℕ
card_text o p mark L s j = written (card_line o.mark mark p.t p.n j L (card o p (lanes p.t L) s j))

abbrev pub cards_text : Operations → Plan → (mark L : ℕ) → (s : List ℕ) → List ℕ
cards_text o p mark L s =
    text_of (map (λ j. card_line o.mark mark p.t p.n j L (card o p (lanes p.t L) s j)) (range_with_len 0 p.n))

pub data Dealt (o : Operations) (p : Plan) (line : ℕ) (text : List ℕ) (a : Answer) : Type 0 where
  unkeyed : Unkeyed p.t line text a → Dealt o p line text a
  more_text : (mark : ℕ) (key dummies rest : List ℕ) → KeyLines p.t mark key dummies text rest → 0 < length rest
      → a ≡ Refuses 0x46 0 no_line → Dealt o p line text a
  unbegun : (mark : ℕ) (key dummies : List ℕ) → KeyLines p.t mark key dummies text []
      → Unbegun o p (length key) (store p.t (length key) key dummies) a → Dealt o p line text a
  all_cards : (mark : ℕ) (key dummies : List ℕ) → KeyLines p.t mark key dummies text [] → Deal o p (length key) key dummies
      → a ≡ Grants (cards_text o p mark (length key) (store p.t (length key) key dummies)) → Dealt o p line text a

pub data Examined (o : Operations) (p : Plan) (line : ℕ) (text : List ℕ) (a : Answer) : Type 0 where
  unvetted : Unvetted o p a → Examined o p line text a
  vetted : Passed o p → Dealt o p line text a → Examined o p line text a

pub data Dealing (text : List ℕ) (a : Answer) : Type 0 where
  long_text : longest_text < length text → a ≡ Refuses 0x46 0 no_line → Dealing text a
  no_plan : length text ≤ longest_text → (f : Fault) → NoPlan text f → a ≡ at_line f 0 → Dealing text a
  no_row : length text ≤ longest_text → (known : Known) (t n : ℕ) (middle : List ℕ) → PlanHead known t n text middle
      → (k : ℕ) (f : Fault) → Broken (wanted.Row t) (n - t) k middle f → a ≡ at_line f (1 + k) → Dealing text a
  planned : length text ≤ longest_text → (known : Known) (t n : ℕ) (middle rows rest : List ℕ) → PlanHead known t n text middle
      → Block kind.Row t (n - t) middle rows rest → Examined (operations known) (plan_of t n rows) (1 + (n - t)) rest a → Dealing text a

-- whatever answer there is to the text, this is its text and its flag
abbrev pub OnlyDealing : (text written : List ℕ) → (flag : Bool) → Type 0
OnlyDealing text written flag = (a : Answer) → Dealing text a → (output a ≡ written) × (granted a ≡ flag)
