-- The plan's lines and any t cards of a text that was dealt give the key's line of that text back. Assumes nothing.
use Rattle.std.proofs.Common.{◌≡◌, ℕ, ◌+◌, ◌-◌, ◌<◌, true, List, [], ◌++◌, map, length, get_or, replicate, is_ok, Some, None, Ok, Err, Option, Result, sym, refl, ap, ◌∙◌, subst, arith}
use mathlib.Core.Path.{transport}
use Rattle.std.specs.List.{range_with_len, AllByRecursion}
use Rattle.std.proofs.ByRecursion.{All-from_get_or, All-map}
use Rattle.std.proofs.lemmas.List.{drop_all, length-map, length-replicate}
use Rattle.std.proofs.lemmas.Bool.{false≢true}
use Rattle.field.specs.Codes.{Operations}
use Rattle.field.specs.Known.{operations}
use Rattle.field.specs.declared.known.Known.{Known}
use Rattle.sharing.specs.Scheme.{Plan, plan_of, store}
use Rattle.plan_check.proofs.Faults.{some_none}
use Rattle.opening.specs.Answers.{Different}
use Rattle.lines.specs.Writing.{written}
use Rattle.slot.specs.Holdings.{Holding}
use Rattle.slot.specs.Unlocks.{Unlocked, size_held, told}
use Rattle.slot.specs.declared.phase.Heading.{Heading}
use Rattle.slot.specs.declared.refusal.SlotRefusal.{SlotRefusal}
use Rattle.slot.proofs.Returning.{promised}
use Rattle.programs.specs.Answers.{Answer, granted, output}
use Rattle.programs.specs.Answers.Answer.{Grants}
use Rattle.programs.specs.Dealing.{Dealing}
use Rattle.programs.specs.Gathering.{Taken}
use Rattle.programs.specs.Joint.{GivenBack, chosen, front, line_at}
use Rattle.programs.specs.Opening.{Opening, Tried, Unlocking, mark_held}
use Rattle.programs.specs.Opening.Opening.{planned, unplanned}
use Rattle.programs.specs.Opening.Tried.{gathered, unadmitted, ungathered}
use Rattle.programs.specs.Opening.Unlocking.{gives_key, stays_shut}
use Rattle.programs.specs.Planning.{PlanLines}
use Rattle.programs.specs.Texts.{key_line, text_of}
use Rattle.programs.specs.Vetting.{room}
use Rattle.programs.proofs.JointCards.{Source, heading, line, modest}
use Rattle.programs.proofs.JointLines.{Modest, chosen-written}
use Rattle.programs.proofs.JointSlot.{counted, first_is, held, own, taken}
use Rattle.programs.proofs.JointTexts.{DealtFrom, granted_from, key_first, plan_before, plan_behind, plan_contents, plan_front}
use Rattle.programs.proofs.KnownFields.{laws_of}
use Rattle.programs.proofs.OnlyCards.{taken_not_ungathered, taken_only}
use Rattle.programs.proofs.OnlyOpening.{fair_taken}
use Rattle.programs.proofs.OnlyPlan.{fit_not_unadmitted, plan_lines_only, planned_not_unplanned}

told_none : (r : Result (Unit {0}) SlotRefusal) → is_ok r ≡ true → told r ≡ None
told_none (Ok u) e = refl
told_none (Err x) e = absurd (false≢true e)

-- a text that was dealt, and t different numbers of its cards
module _ (known : Known) (t n : ℕ) (rows deal cards more js : List ℕ) (plan : PlanLines known t n rows deal more)
    (dealing : Dealing deal (Grants cards)) (count : length js ≡ t) (below : (m : ℕ) → m < length js → get_or js m 0 < n) (different : Different js) where
  abbrev o : Operations
  o = operations known

  abbrev p : Plan
  p = plan_of t n rows

  from : DealtFrom o p more cards
  from = granted_from known t n rows deal cards more plan dealing

  abbrev L : ℕ
  L = length from.key

  abbrev source : Source o p
  source = record {
    laws = laws_of known;
    sound = from.passed.sound;
    size = L;
    some = from.deal.some;
    most = from.deal.most;
    store = store t L from.key from.dummies;
    mark = from.mark;
    four = from.keyed.key_is.four;
  }

  abbrev key_text : List ℕ
  key_text = written (key_line from.mark from.key)

  -- the text of the cards that are chosen, and what the slot holds once it took them all
  abbrev cards_chosen : List ℕ
  cards_chosen = text_of (map (line source) js)

  abbrev full : Holding
  full = held source js (length js)

  some : 0 < length js
  some = omega (arith, count, from.passed.sound.least)

  modest_lines : (xs : List ℕ) → AllByRecursion Modest (map (line source) xs)
  modest_lines xs = All-map Modest (line source) xs (All-from_get_or (λ j. Modest (line source j)) xs 0 (λ i h. modest source (get_or xs i 0)))

  -- the text is the plan's lines and these cards
  text_is : front (1 + (n - t)) deal ++ chosen js cards ≡ text_of (plan_contents known t n rows) ++ cards_chosen
  text_is =
      let picked : chosen js cards ≡ cards_chosen =
      ap (chosen js) from.is ∙ chosen-written (line source) n js (modest_lines (range_with_len 0 n)) below in
      λ i. plan_front known t n rows deal more plan i ++ picked i

  same_plan : PlanLines known t n rows (text_of (plan_contents known t n rows) ++ cards_chosen) cards_chosen
  same_plan = plan_before known t n rows deal more plan (map (line source) js) (modest_lines js) (omega (arith, count, length-map js (line source)))

  -- all of them are put into the slot
  all_taken : Taken o t cards_chosen full []
  all_taken =
      let all = taken source js below different (length js) (omega arith) in
      transport (λ i. Taken o (count i) cards_chosen full (text_of (map (line source) (drop_all (length js) js (omega arith) i)))) all

  first : full.first ≡ Some (heading source)
  first = first_is source js (length js) some

  size : size_held full ≡ L
  size = ap (λ (f : Option Heading). elim f [ Some h ↦ h.size | None ↦ 0 ]) first

  -- and it gives the key
  opens : (after : List ℕ) (r : Result (Unit {0}) SlotRefusal) → Unlocked o p full (replicate (size_held full) 0) after room r
      → (is_ok r ≡ true) × (after ≡ from.key)
  opens after r u =
      (promised (laws_of known) p full (fair_taken o cards_chosen t full [] all_taken) (replicate (size_held full) 0) after room r u).deals
      from.key from.dummies L (heading source) from.passed.sound from.passed.admits from.deal first refl refl refl
      (own source js (length js)) (omega (arith, count, counted source js below different (length js) (omega arith)))
      (length-replicate (size_held full) 0 ∙ size) (omega arith)

  unlocks : (a : Answer) → Unlocking o p full a → a ≡ Grants key_text
  unlocks a (stays_shut after r z u e is) = absurd (some_none z (sym e ∙ told_none r (opens after r u).0))
  unlocks a (gives_key key r u e is) =
      let marked : mark_held full ≡ from.mark = ap (λ (f : Option Heading). elim f [ Some h ↦ h.mark.number | None ↦ 0 ]) first in
      is ∙ (λ i. Grants (written (key_line (marked i) ((opens key r u).1 i))))

  tries : (row : ℕ) (a : Answer) → Tried o p row cards_chosen a → a ≡ Grants key_text
  tries row a (unadmitted u) = absurd (fit_not_unadmitted o p a (record { sound = from.passed.sound; admits = from.passed.admits }) u)
  tries row a (ungathered fit g) = absurd (taken_not_ungathered o cards_chosen t row full a (omega (arith, count, some)) all_taken g)
  tries row a (gathered fit s k u) = unlocks a (subst (λ x. Unlocking o p x a) (taken_only o cards_chosen t s full [] [] k all_taken).0 u)

  answers : (a : Answer) → Opening (text_of (plan_contents known t n rows) ++ cards_chosen) a → a ≡ Grants key_text
  answers a (unplanned u) = absurd (planned_not_unplanned _ known t n rows cards_chosen a same_plan u)
  answers a (planned known' s m rows' less q e) =
      let same = plan_lines_only _ known' known s m t n rows' rows less cards_chosen q same_plan in
      tries (1 + (n - t)) a
      (transport (λ i. Tried (operations (same.0 i)) (plan_of (same.1 i) (same.2 i) (same.3 i)) (1 + (same.2 i - same.1 i)) (same.4 i) a) e)

  gives_back : (text : List ℕ) (a : Answer) → Opening text a → text ≡ front (1 + (n - t)) deal ++ chosen js cards
      → (output a ≡ line_at (1 + (n - t)) deal) × (granted a ≡ true)
  gives_back text a opening is =
      let answer = answers a (subst (λ x. Opening x a) (is ∙ text_is) opening) in
      let key_is = plan_behind known t n rows deal more plan ∙ key_first t from.mark from.key from.dummies more [] from.keyed in
      (ap output answer ∙ sym key_is, ap granted answer)

pub given_back : (text : List ℕ) (a : Answer) → Opening text a → GivenBack text (output a) (granted a)
given_back text a opening deal cards known t n rows more js plan dealing count below different is =
    gives_back known t n rows deal cards more js plan dealing count below different text a opening is
