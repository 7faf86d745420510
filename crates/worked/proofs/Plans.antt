-- What the checks answer to the plans that were worked out. Assumes nothing.
use Rattle.std.proofs.Common.{◌≡◌, List, [], ◌∷◌, map, Some, None, refl, lit<}
use Rattle.std.specs.List.{AllByRecursion}
use Rattle.field.specs.Codes.{first, inverse}
use Rattle.field.specs.Known.{operations}
use Rattle.field.specs.Refusals.{foremost}
use Rattle.field.specs.declared.known.Known.{Known}
use Rattle.field.specs.declared.known.Known.TheVariants.{Bytes, Modulo97}
use Rattle.field.specs.Bytes.{gf256_laws}
use Rattle.field.specs.Modulo97Lemmas.{gf97_laws}
use Rattle.sharing.specs.Scheme.{Plan, Sound}
use Rattle.sharing.specs.Secrecy.{Admits}
use Rattle.plan_check.specs.Checks.{Allowed, table}
use Rattle.plan_check.specs.declared.property.Property.TheVariants.{Opening, Hiding}
use Rattle.plan_check.proofs.Answering.{only_answer}
use Rattle.plan_check.proofs.Ranks.{members}
use Rattle.opening.specs.Tables.{room}
use Rattle.programs.specs.Vetting.{Passed}
use Rattle.programs.proofs.KnownFields.{laws_of}
use Rattle.worked.specs.Cases.{Check, Holds, deal_plan, house_plan, late_telling_plan, shut_plan, telling_plan, worked_checks}
use Rattle.worked.specs.Cases.Case.{check}
use Rattle.worked.proofs.Deciding.{admit_refuses, all_groups, check_grants, group_test, high_test, plan_sound, vanishing, vet_refuses}

-- nothing in the table of a check is against a plan
abbrev Clear : Known → Plan → Type 0
Clear k p = foremost (table (operations k) p room) ≡ None

-- row 1 0 shuts cards 0 and 2
shut_refused : (k : Known) → Allowed Opening (operations k) shut_plan room (Some (0x15, 0x0005))
unfolding first members group_test high_test vanishing
shut_refused Bytes = admit_refuses gf256_laws shut_plan room refl 2 (0 ∷ 2 ∷ []) (lit< tt) refl refl refl 0 (lit< tt) (0 ∷ 1 ∷ []) 1 refl
shut_refused Modulo97 = admit_refuses gf97_laws shut_plan room refl 2 (0 ∷ 2 ∷ []) (lit< tt) refl refl refl 0 (lit< tt) (0 ∷ 1 ∷ []) 1 refl

-- row 1 1 1 opens everywhere, and tells of the key by cards 0 and 2
telling_clear : (k : Known) → Clear k telling_plan
unfolding first
telling_clear Bytes = refl
telling_clear Modulo97 = refl

pub telling_sound : (k : Known) → Sound (operations k) telling_plan
telling_sound k = plan_sound Opening (laws_of k) telling_plan room (telling_clear k)

pub telling_admits : (k : Known) → Admits (operations k) telling_plan
unfolding group_test high_test
telling_admits Bytes = all_groups Opening gf256_laws telling_plan room (telling_clear Bytes) refl
telling_admits Modulo97 = all_groups Opening gf97_laws telling_plan room (telling_clear Modulo97) refl

telling_admitted : (k : Known) → Allowed Opening (operations k) telling_plan room None
telling_admitted k = check_grants Opening (laws_of k) telling_plan room (telling_clear k) (telling_admits k)

pub telling_refused : (k : Known) → Allowed Hiding (operations k) telling_plan room (Some (0x16, 0x0005))
unfolding members group_test high_test vanishing
telling_refused Bytes =
    vet_refuses gf256_laws telling_plan room (telling_clear Bytes) 5 (0 ∷ 2 ∷ []) (lit< tt) refl refl refl (0 ∷ 0 ∷ 0 ∷ 0 ∷ 1 ∷ 0 ∷ []) 4 refl
telling_refused Modulo97 =
    vet_refuses gf97_laws telling_plan room (telling_clear Modulo97) 5 (0 ∷ 2 ∷ []) (lit< tt) refl refl refl (0 ∷ 0 ∷ 0 ∷ 0 ∷ 1 ∷ 0 ∷ []) 4 refl

-- rows 1 1 1, 1 2 3 and 1 3 4 open everywhere modulo 97, and tell of the key by cards 0 and 3
late_clear : Clear Modulo97 late_telling_plan
unfolding first
late_clear = refl

late_admitted : Allowed Opening (operations Modulo97) late_telling_plan room None
unfolding group_test high_test
late_admitted = check_grants Opening gf97_laws late_telling_plan room late_clear (all_groups Opening gf97_laws late_telling_plan room late_clear refl)

late_refused : Allowed Hiding (operations Modulo97) late_telling_plan room (Some (0x16, 0x0009))
unfolding members group_test high_test vanishing
late_refused = vet_refuses gf97_laws late_telling_plan room late_clear 27 (0 ∷ 3 ∷ []) (lit< tt) refl refl refl (3 ∷ 0 ∷ 96 ∷ 94 ∷ 1 ∷ 0 ∷ []) 0 refl

-- Cauchy rows open and hide everywhere
house_clear : Clear Modulo97 house_plan
unfolding first inverse
house_clear = refl

house_admitted : Allowed Opening (operations Modulo97) house_plan room None
unfolding group_test high_test
house_admitted = check_grants Opening gf97_laws house_plan room house_clear (all_groups Opening gf97_laws house_plan room house_clear refl)

house_vetted : Allowed Hiding (operations Modulo97) house_plan room None
unfolding group_test high_test
house_vetted = check_grants Hiding gf97_laws house_plan room house_clear (all_groups Hiding gf97_laws house_plan room house_clear refl)

-- row 8D F6 opens and hides everywhere
pub deal_passed : Passed (operations Bytes) deal_plan
unfolding first group_test high_test
deal_passed = record {
  sound = plan_sound Opening gf256_laws deal_plan room refl;
  admits = all_groups Opening gf256_laws deal_plan room refl refl;
  vets = all_groups Hiding gf256_laws deal_plan room refl refl;
}

abbrev Answers : Check → Type 0
Answers w = Allowed w.property (operations w.known) w.plan room w.answer

-- an answer that is allowed is the only one
checks_hold : (ws : List Check) → AllByRecursion Answers ws → AllByRecursion Holds (map check ws)
checks_hold [] h = tt
checks_hold (w ∷ ws) h = ((h.0, only_answer w.property (operations w.known) w.plan room w.answer h.0), checks_hold ws h.1)

pub checked : AllByRecursion Holds (map check worked_checks)
checked =
    checks_hold worked_checks (
      shut_refused Bytes,
      (
        shut_refused Modulo97,
        (
          telling_admitted Bytes,
          (
            telling_refused Bytes,
            (
              telling_admitted Modulo97,
              (
                telling_refused Modulo97,
                (
                  late_admitted,
                  (
                    late_refused,
                    (
                      house_admitted,
                      (house_vetted, tt),
                    ),
                  ),
                ),
              ),
            ),
          ),
        ),
      ),
    )
