-- Cases worked out by hand, in one list: products, cards, checks of plans, runs of the two programs, openings.
-- Numbers of the field of bytes are written in hexadecimal, numbers modulo 97 in decimal. Assumes nothing.
--   lined     a text of lines, each closed
--   Check     a plan, and what one of its two checks was found to answer: a refusal's number and group, or none
--   Run       a text, and what a program was found to write for it
--   Opening   cards, and what was found in the place for the key once they were opened
--   Case      one of these, or a product, or the cards of a deal; a run is of the dealing program (dealing) or of the opening
--             program (returning)
--   Holds     what was found is what the contracts allow, and they allow nothing else
--   deal_plan, shut_plan, telling_plan, late_telling_plan, house_plan   the plans
--   admit, vet   what Admit and what Vet was found to answer
--   worked_checks, worked_dealings, worked_openings, worked_returns   the cases of this crate; products and deals have lists of
--             their own
--   cases     all cases
use Rattle.std.specs.Prelude.{◌≡◌, ℕ, Bool, true, false, List, [], ◌∷◌, ◌++◌, map, Some, None, Option, Result}
use Prim.Native.String.{String}
use Rattle.field.specs.Known as products
use Rattle.field.specs.Known.{Product, operations, worked_products}
use Rattle.field.specs.Refusals.{refused}
use Rattle.field.specs.Rows.{cauchy_rows}
use Rattle.field.specs.declared.known.Known.{Known}
use Rattle.field.specs.declared.known.Known.TheVariants.{Bytes, Modulo97}
use Rattle.field.specs.declared.refusal.Refusal.{Refusal}
use Rattle.sharing.specs.Scheme.{Plan, plan_of}
use Rattle.sharing.specs.Worked as deals
use Rattle.sharing.specs.Worked.{Worked, worked_deals}
use Rattle.plan_check.specs.Checks as checks
use Rattle.plan_check.specs.declared.property.Property.{Property}
use Rattle.plan_check.specs.declared.property.Property.TheVariants as property
use Rattle.lines.specs.Worked.{closed}
use Rattle.opening.specs.Answers as openings
use Rattle.opening.specs.Tables.{room}
use Rattle.programs.specs.Answers.{Answer, granted, output}
use Rattle.programs.specs.Dealing.{Dealing, OnlyDealing}
use Rattle.programs.specs.Opening as returns

abbrev pub lined : List String → List ℕ
lined [] = []
lined (s ∷ rest) = closed s ++ lined rest

pub record Check : Type 0 where
  pub property : Property
  pub known : Known
  pub plan : Plan
  pub answer : Option (ℕ × ℕ)

pub record Run : Type 0 where
  pub text : List ℕ
  pub written : List ℕ
  pub granted : Bool

-- before and after are what the place for a key of L numbers holds
pub record Opening : Type 0 where
  pub known : Known
  pub plan : Plan
  pub cards : List ℕ
  pub numbers : List ℕ
  pub L : ℕ
  pub before : List ℕ
  pub after : List ℕ
  pub refusal : Option (ℕ × ℕ)

pub data Case : Type 0 where
  product : Product → Case
  cards : Worked → Case
  check : Check → Case
  dealing : Run → Case
  opening : Opening → Case
  returning : Run → Case

abbrev pub Holds : Case → Type 0
Holds (product w) = products.Hold (w ∷ [])
Holds (cards w) = deals.Hold (w ∷ [])
Holds (check w) =
    checks.Allowed w.property (operations w.known) w.plan room w.answer
    × checks.OnlyAnswer w.property (operations w.known) w.plan room w.answer
Holds (dealing w) =
    (a : Answer) × Dealing w.text a × (output a ≡ w.written) × (granted a ≡ w.granted)
    × OnlyDealing w.text w.written w.granted
Holds (opening w) =
    (r : Result (Unit {0}) Refusal) × (refused r ≡ w.refusal)
    × openings.Answered (operations w.known) w.plan w.cards w.numbers w.L w.before w.after room r
    × openings.OnlyAnswer (operations w.known) w.plan w.cards w.numbers w.L w.before w.after room r
Holds (returning w) =
    (a : Answer) × returns.Opening w.text a × (output a ≡ w.written) × (granted a ≡ w.granted)
    × returns.OnlyOpening w.text w.written w.granted

-- row 8D F6, of the first of the deals: all open and hide
abbrev pub deal_plan : Plan
deal_plan = plan_of 2 3 (0x8D ∷ 0xF6 ∷ [])

-- row 1 0: cards 0 and 2 do not open
abbrev pub shut_plan : Plan
shut_plan = plan_of 2 3 (1 ∷ 0 ∷ [])

-- row 1 1 1: all open, and cards 0 and 2 tell of the key
abbrev pub telling_plan : Plan
telling_plan = plan_of 3 4 (1 ∷ 1 ∷ 1 ∷ [])

-- rows 1 1 1, 1 2 3 and 1 3 4, modulo 97: all open, and cards 0 and 3 tell of the key
abbrev pub late_telling_plan : Plan
late_telling_plan = plan_of 3 6 (1 ∷ 1 ∷ 1 ∷ 1 ∷ 2 ∷ 3 ∷ 1 ∷ 3 ∷ 4 ∷ [])

-- Cauchy rows, modulo 97: all open and hide
abbrev pub house_plan : Plan
house_plan = plan_of 3 6 (cauchy_rows (operations Modulo97) 3 6)

abbrev pub admit : Known → Plan → (answer : Option (ℕ × ℕ)) → Check
admit known plan answer = record { property = property.Opening; known = known; plan = plan; answer = answer }

abbrev pub vet : Known → Plan → (answer : Option (ℕ × ℕ)) → Check
vet known plan answer = record { property = property.Hiding; known = known; plan = plan; answer = answer }

abbrev pub worked_checks : List Check
worked_checks =
    admit Bytes shut_plan (Some (0x15, 0x0005))
    ∷ admit Modulo97 shut_plan (Some (0x15, 0x0005))
    ∷ admit Bytes telling_plan None
    ∷ vet Bytes telling_plan (Some (0x16, 0x0005))
    ∷ admit Modulo97 telling_plan None
    ∷ vet Modulo97 telling_plan (Some (0x16, 0x0005))
    ∷ admit Modulo97 late_telling_plan None
    ∷ vet Modulo97 late_telling_plan (Some (0x16, 0x0009))
    ∷ admit Modulo97 house_plan None
    ∷ vet Modulo97 house_plan None
    ∷ []

-- the cards of the first deal
abbrev pub dealt_cards : Run
dealt_cards = record {
  text = lined ("01 01 02 03" ∷ "02 8DF6" ∷ "04 0000002A 1234" ∷ "05 A00B" ∷ []);
  written = lined ("03 01 0000002A 02 03 00 02 B20B" ∷ "03 01 0000002A 02 03 01 02 3FA0" ∷ "03 01 0000002A 02 03 02 02 4CA0" ∷ []);
  granted = true;
}

-- a plan that tells of the key
abbrev pub not_vetted : Run
not_vetted = record {
  text = lined ("01 01 03 04" ∷ "02 010101" ∷ []);
  written = lined ("0F 16 0005 FFFF" ∷ []);
  granted = false;
}

abbrev pub worked_dealings : List Run
worked_dealings = dealt_cards ∷ not_vetted ∷ []

-- cards 1 and 2 of the first deal give its key back
abbrev pub opened_deal : Opening
opened_deal = record {
  known = Bytes;
  plan = deal_plan;
  cards = 1 ∷ 2 ∷ [];
  numbers = 0x3F ∷ 0xA0 ∷ 0x4C ∷ 0xA0 ∷ [];
  L = 2;
  before = 0x00 ∷ 0x00 ∷ [];
  after = 0x12 ∷ 0x34 ∷ [];
  refusal = None;
}

-- two cards whose padded key is 01 02 03 07: a key of three numbers is padded with 0, not with 07
abbrev pub loose_padding : Opening
loose_padding = record {
  known = Bytes;
  plan = plan_of 2 2 [];
  cards = 0 ∷ 1 ∷ [];
  numbers = 0x01 ∷ 0x02 ∷ 0x00 ∷ 0x00 ∷ 0x03 ∷ 0x07 ∷ 0x00 ∷ 0x00 ∷ [];
  L = 3;
  before = 0x09 ∷ 0x09 ∷ 0x09 ∷ [];
  after = 0x09 ∷ 0x09 ∷ 0x09 ∷ [];
  refusal = Some (0x38, 3);
}

abbrev pub worked_openings : List Opening
worked_openings = opened_deal ∷ loose_padding ∷ []

-- cards 1 and 2 of the first deal, as they were written, give its key's line back
abbrev pub returned_key : Run
returned_key = record {
  text = lined ("01 01 02 03" ∷ "02 8DF6" ∷ "03 01 0000002A 02 03 01 02 3FA0" ∷ "03 01 0000002A 02 03 02 02 4CA0" ∷ []);
  written = lined ("04 0000002A 1234" ∷ []);
  granted = true;
}

-- and so they do in the other order
abbrev pub returned_again : Run
returned_again = record {
  text = lined ("01 01 02 03" ∷ "02 8DF6" ∷ "03 01 0000002A 02 03 02 02 4CA0" ∷ "03 01 0000002A 02 03 01 02 3FA0" ∷ []);
  written = lined ("04 0000002A 1234" ∷ []);
  granted = true;
}

abbrev pub worked_returns : List Run
worked_returns = returned_key ∷ returned_again ∷ []

abbrev pub cases : List Case
cases =
    map product worked_products
    ++ (map cards worked_deals
    ++ (map check worked_checks
    ++ (map dealing worked_dealings
    ++ (map opening worked_openings
    ++ map returning worked_returns))))
