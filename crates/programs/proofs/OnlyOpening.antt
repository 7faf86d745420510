-- The opening program has one answer to each text. Assumes nothing.
use Rattle.std.proofs.Common.{◌≡◌, ℕ, zero, suc, ◌+◌, ◌-◌, ◌*◌, ◌<◌, Bool, List, [], ◌∷◌, replicate, is_some, Some, None, Option, Result, unwrap_or, sym, ap, ◌∙◌, subst, arith}
use mathlib.Core.Path.{transport}
use Rattle.field.specs.Codes.{Laws, Operations}
use Rattle.field.specs.Known.{operations}
use Rattle.field.specs.declared.refusal.Refusal.TheVariants.{DataCode}
use Rattle.sharing.specs.Scheme.{Plan, plan_of}
use Rattle.plan_check.specs.Faults.{first_no_code}
use Rattle.lines.specs.Writing.{written}
use Rattle.lines.specs.declared.wanted.Wanted.TheVariants as wanted
use Rattle.lines.proofs.Readings.{read_ok}
use Rattle.slot.specs.Holdings.{Holding}
use Rattle.slot.specs.Inserts.{differs, heading_of, held_at, number_of}
use Rattle.slot.specs.Unlocks.{Unlocked, size_held, told}
use Rattle.slot.specs.declared.refusal.SlotRefusal.{SlotRefusal}
use Rattle.slot.specs.declared.refusal.SlotRefusal.TheVariants.{HeldAlready, OtherDeal, Shared}
use Rattle.slot.proofs.Fairness.{fair_inserted, fair_nothing}
use Rattle.slot.proofs.Inserting.{passed}
use Rattle.slot.proofs.Returning.{promised}
use Rattle.slot.proofs.Unlocking.{Fair}
use Rattle.programs.specs.Answers.{Answer, granted, no_line, output}
use Rattle.programs.specs.Answers.Answer.{Grants, Refuses}
use Rattle.programs.specs.Gathering.{Taken}
use Rattle.programs.specs.Opening.{OnlyOpening, Opening, Tried, Unlocking, mark_held}
use Rattle.programs.specs.Opening.Opening.{planned, unplanned}
use Rattle.programs.specs.Opening.Tried.{gathered, unadmitted, ungathered}
use Rattle.programs.specs.Opening.Unlocking.{gives_key, stays_shut}
use Rattle.programs.specs.Texts.{key_line}
use Rattle.programs.specs.Vetting.{Fit, room}
use Rattle.programs.proofs.KnownFields.{laws_of}
use Rattle.programs.proofs.OnlyCards.{taken_not_ungathered, taken_only, ungathered_only}
use Rattle.programs.proofs.OnlyPlan.{fit_not_unadmitted, plan_lines_only, planned_not_unplanned, unadmitted_only, unplanned_only}

-- what a slot holds that took cards, one after the other, always has the same heading, numbers and lengths
pub fair_taken : (o : Operations) (text : List ℕ) (k : ℕ) (s : Holding) (rest : List ℕ) → Taken o k text s rest → Fair s
fair_taken o text zero s rest t = subst Fair (sym t.0) fair_nothing
fair_taken o text (suc k) s rest t =
    let before = fair_taken o text k t.0 t.1 t.3 in
    let c = t.2 in
    let kept = (read_ok (wanted.Card o.mark) t.1 c t.4.reads).kept in
    let first = first_no_code o c.numbers in
    let others = (differs t.0.first (heading_of c), OtherDeal) ∷ (is_some (held_at t.0 (number_of c)), HeldAlready (number_of c)) ∷ [] in
    let past = (passed (is_some first) (Shared (DataCode (256 * number_of c + unwrap_or first 0))) others t.5).1 in
    let same = (passed (differs t.0.first (heading_of c)) OtherDeal ((is_some (held_at t.0 (number_of c)), HeldAlready (number_of c)) ∷ []) past).0 in
    subst Fair (sym t.6) (fair_inserted o.mark c kept t.0 same before)

module _ {o : Operations} (laws : Laws o) (p : Plan) where
  -- the slot has one answer
  unlocked_only : (s : Holding) → Fair s → (x y : List ℕ) (r q : Result (Unit {0}) SlotRefusal) → Unlocked o p s (replicate (size_held s) 0) x room r
      → Unlocked o p s (replicate (size_held s) 0) y room q → (told q ≡ told r) × (y ≡ x)
  unlocked_only s fair x y r q h i = (promised laws p s fair (replicate (size_held s) 0) x room r h).only y q i

  unlocking_only : (s : Holding) → Fair s → (a b : Answer) → Unlocking o p s a → Unlocking o p s b → a ≡ b
  unlocking_only s fair a b (stays_shut x r z u e is) (stays_shut y q w v f also) =
      let both : ◌≡◌ {A = Option (ℕ × ℕ)} (Some z) (Some w) = sym e ∙ sym (unlocked_only s fair x y r q u v).0 ∙ f in
      let same : z ≡ w = cc in
      is ∙ ap (λ n. Refuses n.0 n.1 no_line) same ∙ sym also
  unlocking_only s fair a b (stays_shut x r z u e is) (gives_key y q v f also) =
      let both : ◌≡◌ {A = Option (ℕ × ℕ)} (Some z) None = sym e ∙ sym (unlocked_only s fair x y r q u v).0 ∙ f in
      let no : ◌≡◌ {A = ℕ} 0 1 = cc in absurd (omega arith)
  unlocking_only s fair a b (gives_key x r u e is) (stays_shut y q w v f also) =
      let both : ◌≡◌ {A = Option (ℕ × ℕ)} None (Some w) = sym e ∙ sym (unlocked_only s fair x y r q u v).0 ∙ f in
      let no : ◌≡◌ {A = ℕ} 0 1 = cc in absurd (omega arith)
  unlocking_only s fair a b (gives_key x r u e is) (gives_key y q v f also) =
      is ∙ ap (λ k. Grants (written (key_line (mark_held s) k))) (sym (unlocked_only s fair x y r q u v).1) ∙ sym also

  pos : Fit o p → 0 < p.t
  pos fit = omega (arith, fit.sound.least)

  tried_only : (line : ℕ) (text : List ℕ) (a b : Answer) → Tried o p line text a → Tried o p line text b → a ≡ b
  tried_only line text a b (unadmitted u) (unadmitted v) = unadmitted_only o p a b u v
  tried_only line text a b (unadmitted u) (ungathered fit v) = absurd (fit_not_unadmitted o p a fit u)
  tried_only line text a b (unadmitted u) (gathered fit s t v) = absurd (fit_not_unadmitted o p a fit u)
  tried_only line text a b (ungathered fit u) (unadmitted v) = absurd (fit_not_unadmitted o p b fit v)
  tried_only line text a b (ungathered fit u) (ungathered fit' v) = ungathered_only o text p.t line a b (pos fit) u v
  tried_only line text a b (ungathered fit u) (gathered fit' s t v) = absurd (taken_not_ungathered o text p.t line s a (pos fit) t u)
  tried_only line text a b (gathered fit s t u) (unadmitted v) = absurd (fit_not_unadmitted o p b fit v)
  tried_only line text a b (gathered fit s t u) (ungathered fit' v) = absurd (taken_not_ungathered o text p.t line s b (pos fit) t v)
  tried_only line text a b (gathered fit s t u) (gathered fit' s' t' v) =
      let same = (taken_only o text p.t s s' [] [] t t').0 in
      unlocking_only s' (fair_taken o text p.t s' [] t') a b (subst (λ x. Unlocking o p x a) same u) v

pub opening_only : (text : List ℕ) (a b : Answer) → Opening text a → Opening text b → a ≡ b
opening_only text a b (unplanned u) (unplanned v) = unplanned_only text a b u v
opening_only text a b (unplanned u) (planned known t n rows rest p v) = absurd (planned_not_unplanned text known t n rows rest a p u)
opening_only text a b (planned known t n rows rest p u) (unplanned v) = absurd (planned_not_unplanned text known t n rows rest b p v)
opening_only text a b (planned known t n rows rest p u) (planned known' s m rows' less q v) =
    let same = plan_lines_only text known known' t n s m rows rows' rest less p q in
    tried_only (laws_of known') (plan_of s m rows') (1 + (m - s)) less a b
    (transport (λ i. Tried (operations (same.0 i)) (plan_of (same.1 i) (same.2 i) (same.3 i)) (1 + (same.2 i - same.1 i)) (same.4 i) a) u) v

pub only_opening : (text : List ℕ) (a : Answer) (bytes : List ℕ) (flag : Bool) → Opening text a → bytes ≡ output a → flag ≡ granted a → OnlyOpening text bytes flag
only_opening text a bytes flag d is also b e = let same = opening_only text b a e d in (ap output same ∙ sym is, ap granted same ∙ sym also)
