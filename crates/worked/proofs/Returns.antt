-- What the opening program writes for the texts that were worked out. Assumes nothing.
use Rattle.std.proofs.Common.{◌≡◌, ℕ, ◌≤◌, List, [], ◌∷◌, ◌++◌, map, length, None, Ok, sym, refl, lit≤}
use Rattle.std.specs.List.{AllByRecursion}
use Rattle.field.specs.Codes.{Operations, first}
use Rattle.field.specs.Known.{operations}
use Rattle.field.specs.declared.known.Known.TheVariants.{Bytes}
use Rattle.lines.specs.Lines.{Content}
use Rattle.lines.specs.Readers.{longest_text}
use Rattle.slot.specs.Holdings.{Holding}
use Rattle.slot.specs.Inserts.{card_table, inserted, nothing}
use Rattle.slot.specs.Refusals.{foremost}
use Rattle.programs.specs.Answers.{Answer, granted, output}
use Rattle.programs.specs.Answers.Answer.{Grants}
use Rattle.programs.specs.Gathering.{CardHead, Taken}
use Rattle.programs.specs.Opening.{Opening, Unlocking}
use Rattle.programs.specs.Opening.Opening.{planned}
use Rattle.programs.specs.Opening.Tried.{gathered}
use Rattle.programs.specs.Opening.Unlocking.{gives_key}
use Rattle.programs.specs.Texts.{card_line, text_of}
use Rattle.programs.proofs.OnlyOpening.{only_opening}
use Rattle.worked.specs.Cases.{Holds, Run, deal_plan, returned_again, returned_key, worked_returns}
use Rattle.worked.specs.Cases.Case.{returning}
use Rattle.worked.proofs.Openings.{deal_opened}
use Rattle.worked.proofs.Plans.{deal_passed}
use Rattle.worked.proofs.Runs.{deal_lines, deal_text}

abbrev o : Operations
o = operations Bytes

abbrev card_1 : Content
card_1 = card_line 1 42 2 3 1 2 (0x3F ∷ 0xA0 ∷ [])

abbrev card_2 : Content
card_2 = card_line 1 42 2 3 2 2 (0x4C ∷ 0xA0 ∷ [])

-- what the slot holds once it took them, in either order
abbrev both : Holding
both = inserted (inserted nothing card_1) card_2

-- two cards, which the slot takes one after the other
taken : (c d : Content) → CardHead o c (text_of (c ∷ d ∷ [])) (text_of (d ∷ [])) → CardHead o d (text_of (d ∷ [])) []
    → foremost (card_table o nothing c) ≡ None → foremost (card_table o (inserted nothing c) d) ≡ None
    → Taken o 2 (text_of (c ∷ d ∷ [])) (inserted (inserted nothing c) d) []
taken c d one two free still =
    (inserted nothing c, text_of (d ∷ []), d, (nothing, text_of (c ∷ d ∷ []), c, (refl, refl), one, free, refl), two, still, refl)

-- the slot then opens, as Open does with cards 1 and 2
unlocked : Unlocking o deal_plan both (Grants returned_key.written)
unfolding first
unlocked = gives_key (0x12 ∷ 0x34 ∷ []) (Ok tt) (Ok tt, refl, deal_opened) refl refl

-- so cards that it holds after a text give the key's line
gives : (text : List ℕ) → length (deal_text ++ text) ≤ longest_text → Taken o 2 text both [] → Opening (deal_text ++ text) (Grants returned_key.written)
gives text short cards =
    planned Bytes 2 3 deal_plan.rows text (deal_lines text short)
    (gathered (record { sound = deal_passed.sound; admits = deal_passed.admits }) both cards unlocked)

-- an answer that there is, is the only one
return_holds : (w : Run) (a : Answer) → Opening w.text a → output a ≡ w.written → granted a ≡ w.granted → Holds (returning w)
return_holds w a d is also = (a, d, is, also, only_opening w.text a w.written w.granted d (sym is) (sym also))

key_returned : Holds (returning returned_key)
unfolding first
key_returned =
    return_holds returned_key (Grants returned_key.written)
    (gives (text_of (card_1 ∷ card_2 ∷ [])) (lit≤ tt)
    (taken card_1 card_2 (record { reads = refl; is = refl }) (record { reads = refl; is = refl }) refl refl)) refl refl

again_returned : Holds (returning returned_again)
unfolding first
again_returned =
    return_holds returned_again (Grants returned_key.written)
    (gives (text_of (card_2 ∷ card_1 ∷ [])) (lit≤ tt)
    (taken card_2 card_1 (record { reads = refl; is = refl }) (record { reads = refl; is = refl }) refl refl)) refl refl

pub returned_all : AllByRecursion Holds (map returning worked_returns)
returned_all = (key_returned, (again_returned, tt))
