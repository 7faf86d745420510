-- What the dealing program writes for the texts that were worked out. Assumes nothing.
use Rattle.std.proofs.Common.{◌≡◌, ℕ, ◌≤◌, true, ltb, List, [], ◌∷◌, ◌++◌, map, length, get_or, sym, refl, arith, lit≤}
use Rattle.std.specs.List.{AllByRecursion}
use Rattle.std.proofs.lemmas.Bool.{ltb-true}
use Rattle.field.specs.Codes.{Operations, sum}
use Rattle.field.specs.Known.{operations}
use Rattle.field.specs.Polynomials.{times, reduce}
use Rattle.field.specs.declared.known.Known.TheVariants.{Bytes}
use Rattle.sharing.specs.Scheme.{Codes, store}
use Rattle.lines.specs.Readers.{longest_text}
use Rattle.programs.specs.Answers.{Answer, granted, no_line, output}
use Rattle.programs.specs.Answers.Answer.{Grants, Refuses}
use Rattle.programs.specs.Dealing.{Dealing, cards_text}
use Rattle.programs.specs.Dealing.Dealt.{all_cards}
use Rattle.programs.specs.Dealing.Examined.{unvetted, vetted}
use Rattle.programs.specs.Keys.{KeyLines}
use Rattle.programs.specs.Planning.{PlanLines}
use Rattle.programs.specs.Vetting.Unvetted.{not_vetted}
use Rattle.programs.proofs.OnlyDealing.{only_dealing}
use Rattle.programs.proofs.PlanFirst.{dealing_planned}
use Rattle.worked.specs.Cases.{Holds, Run, deal_plan, dealt_cards, lined, telling_plan, worked_dealings}
use Rattle.worked.specs.Cases as cases
use Rattle.worked.specs.Cases.Case.{dealing}
use Rattle.worked.proofs.Deciding.{all_at, all_below}
use Rattle.worked.proofs.Plans.{deal_passed, telling_admits, telling_refused, telling_sound}

codes_by : (o : Operations) (xs : List ℕ) → all_below (length xs) (λ i. ltb (get_or xs i 0) o.size) ≡ true → Codes o xs
codes_by o xs e i h = ltb-true (get_or xs i 0) o.size (all_at (length xs) _ e i h)

-- an answer that there is, is the only one
run_holds : (w : Run) (a : Answer) → Dealing w.text a → output a ≡ w.written → granted a ≡ w.granted → Holds (dealing w)
run_holds w a d is also = (a, d, is, also, only_dealing w.text a w.written w.granted d (sym is) (sym also))

key_text : List ℕ
key_text = lined ("04 0000002A 1234" ∷ "05 A00B" ∷ [])

-- the lines of the first deal's plan, and what follows them
abbrev pub deal_text : List ℕ
deal_text = lined ("01 01 02 03" ∷ "02 8DF6" ∷ [])

pub deal_lines : (rest : List ℕ) → length (deal_text ++ rest) ≤ longest_text → PlanLines Bytes 2 3 deal_plan.rows (deal_text ++ rest) rest
deal_lines rest short = record {
  short = short;
  middle = lined ("02 8DF6" ∷ []) ++ rest;
  head = record { limits = refl; is = refl };
  rows_are = record { bytes = omega arith; long = refl; is = refl };
}

dealt-plan : PlanLines Bytes 2 3 deal_plan.rows dealt_cards.text key_text
unfolding key_text
dealt-plan = deal_lines key_text (lit≤ tt)

dealt_key : KeyLines 2 42 (0x12 ∷ 0x34 ∷ []) (0xA0 ∷ 0x0B ∷ []) key_text []
unfolding key_text
dealt_key = record {
  middle = lined ("05 A00B" ∷ []);
  key_is = record { four = lit≤ tt; bytes = omega arith; some = lit≤ tt; most = lit≤ tt; is = refl };
  dummies_are = record { bytes = omega arith; long = refl; is = refl };
}

cards_dealt : Holds (dealing dealt_cards)
unfolding all_below sum times reduce
cards_dealt =
    run_holds dealt_cards (Grants (cards_text (operations Bytes) deal_plan 42 2 (store 2 2 (0x12 ∷ 0x34 ∷ []) (0xA0 ∷ 0x0B ∷ []))))
    (dealing_planned _ _ Bytes 2 3 deal_plan.rows key_text dealt-plan
    (vetted deal_passed
    (all_cards 42 (0x12 ∷ 0x34 ∷ []) (0xA0 ∷ 0x0B ∷ []) dealt_key
    (record { some = lit≤ tt; most = lit≤ tt; key_of = (refl, codes_by (operations Bytes) (0x12 ∷ 0x34 ∷ []) refl); dummies_of = (refl, codes_by (operations Bytes) (0xA0 ∷ 0x0B ∷ []) refl) }) refl))) refl refl

plan-refused : Holds (dealing cases.not_vetted)
plan-refused =
    run_holds cases.not_vetted (Refuses 0x16 5 no_line)
    (dealing_planned _ _ Bytes 3 4 telling_plan.rows []
    (record {
      short = lit≤ tt;
      middle = lined ("02 010101" ∷ []);
      head = record { limits = refl; is = refl };
      rows_are = record { bytes = omega arith; long = refl; is = refl };
    })
    (unvetted (not_vetted (0x16, 5) (telling_sound Bytes) (telling_admits Bytes) (telling_refused Bytes) refl))) refl refl

pub dealt_all : AllByRecursion Holds (map dealing worked_dealings)
dealt_all = (cards_dealt, (plan-refused, tt))
