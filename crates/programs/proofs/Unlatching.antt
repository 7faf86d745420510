-- What the opening program makes of the answer of the slot. Assumes nothing.
use Rattle.std.proofs.Common.{◌≡◌, ℕ, Bool, true, false, cond, ◌||◌, ltb, List, [], ◌∷◌, length, replicate, Some, None, Ok, Err, Option, Result, sym, refl, ap, ◌∙◌, subst, arith}
use Rattle.std.specs.List.{AllByRecursion}
use Rattle.std.specs.Result.{IsErrAnd}
use Rattle.std.proofs.lemmas.Bool.{false≢true}
use Rattle.field.specs.Codes.{Operations}
use Rattle.field.specs.Refusals.{Rule, foremost}
use Rattle.field.specs.declared.refusal.Refusal.{Refusal}
use Rattle.sharing.specs.Scheme.{Plan}
use Rattle.lines.specs.Faults.{fault_number}
use Rattle.lines.specs.Writing.{written}
use Rattle.lines.specs.declared.fault.Fault.{Fault}
use Rattle.lines.specs.declared.fault.Fault.TheVariants.{Absent, Byte, Unwanted, Shape, Limits, Length, Excess}
use Rattle.slot.specs.Holdings.{Holding}
use Rattle.slot.specs.Refusals.{listing}
use Rattle.slot.specs.Unlocks.{Settled, Unlocked, raised, size_held, unlock_table}
use Rattle.slot.specs.declared.phase.Heading.{Heading}
use Rattle.slot.specs.declared.refusal.SlotRefusal.{SlotRefusal}
use Rattle.slot.specs.declared.refusal.SlotRefusal.TheVariants.{Line, Shared, OtherDeal, HeldAlready, NotHeld, OtherPlan, TooFew}
use Rattle.programs.specs.Answers.{Refusing, Stops, Tells, no_line}
use Rattle.programs.specs.Answers.Answer.{Grants, Refuses}
use Rattle.programs.specs.Gathering.{Short}
use Rattle.programs.specs.Opening.{Unlocking}
use Rattle.programs.specs.Opening.Unlocking.{gives_key, stays_shut}
use Rattle.programs.specs.Texts.{key_line}
use Rattle.programs.specs.Vetting.{room}
use Rattle.programs.specs.declared.stop.Stop.{Stop}
use Rattle.programs.proofs.Chain.{mapped}

-- the number is not one of a line's fault
abbrev Beside : ℕ → Bool
Beside number = ltb number 0x40 || ltb 0x46 number

fault_not_beside : (f : Fault) → Beside (fault_number f) ≡ false
fault_not_beside Absent = refl
fault_not_beside (Byte place) = refl
fault_not_beside Unwanted = refl
fault_not_beside Shape = refl
fault_not_beside Limits = refl
fault_not_beside Length = refl
fault_not_beside Excess = refl

-- what every line of a table keeps to, the foremost one keeps to
rules_all : (P : ℕ → Type 0) (rules : List Rule) (z : ℕ × ℕ) → AllByRecursion (λ r. P r.0) rules → foremost rules ≡ Some z → P z.0
rules_all P [] z u e = let w : ◌≡◌ {A = ℕ} 0 1 = cc in absurd (omega arith)
rules_all P (r ∷ rules) z u e = go r.1 refl (rules_all P rules z u.1)
  where
    go : (b : Bool) → r.1 ≡ b → (foremost rules ≡ Some z → P z.0) → P z.0
    go true p ih =
        let q : Some (r.0, r.2) ≡ Some z = sym (ap (λ b. cond b (Some (r.0, r.2)) (foremost rules)) p) ∙ e in
        let s : (r.0, r.2) ≡ z = cc in
        subst (λ x. P x.0) s u.0
    go false p ih = ih (sym (ap (λ b. cond b (Some (r.0, r.2)) (foremost rules)) p) ∙ e)

module _ (o : Operations) (p : Plan) (s : Holding) (before after : List ℕ) (workspace : ℕ) where
  -- Unlock refuses nothing for a line's fault
  line_never : (f : Fault) (w : Option (ℕ × ℕ)) → foremost (unlock_table o p s (length before) workspace) ≡ w → Settled o p s before after (Err (Line f)) w → ⊥
  line_never f (Some z) e h =
      let is : fault_number f ≡ z.0 = ap (λ (x : Option (ℕ × ℕ)). elim x [ Some y ↦ y.0 | None ↦ 0 ]) h.0 in
      false≢true (sym (fault_not_beside f) ∙ ap Beside is ∙ rules_all (λ n. Beside n ≡ true) (unlock_table o p s (length before) workspace) z (refl, (refl, (refl, (refl, (refl, (refl, (refl, (refl, tt)))))))) e)
  line_never f None e h = never h.0 h.1
    where
      never : (inner : Result (Unit {0}) Refusal) → Err (Line f) ≡ raised inner → ⊥
      never (Ok u) q = let z : ◌≡◌ {A = ℕ} 0 1 = cc in omega arith
      never (Err e) q = let z : ◌≡◌ {A = ℕ} 0 1 = cc in omega arith

  pub unlock_short : (e : SlotRefusal) → Unlocked o p s before after workspace (Err e) → Short e
  unlock_short (Line f) h = absurd (line_never f (foremost (unlock_table o p s (length before) workspace)) refl h)
  unlock_short (Shared e) h = tt
  unlock_short OtherDeal h = tt
  unlock_short (HeldAlready j) h = tt
  unlock_short (NotHeld j) h = tt
  unlock_short OtherPlan h = tt
  unlock_short (TooFew m) h = tt

-- what the slot answers, as the program tells it
module _ (o : Operations) (p : Plan) (s : Holding) (h : Heading) (held : s.first ≡ Some h) (place after : List ℕ) (n workspace : ℕ)
    (size : n ≡ h.size) (zeros : place ≡ replicate n 0) (lent : workspace ≡ room) where
  place_is : place ≡ replicate (size_held s) 0
  place_is = zeros ∙ ap (λ k. replicate k 0) (size ∙ sym (ap (λ (x : Option Heading). elim x [ Some y ↦ y.size | None ↦ 0 ]) held))

  told_refusal : (e : SlotRefusal) → Unlocked o p s place after workspace (Err e) → Unlocking o p s (Refuses (listing e).0 (listing e).1 no_line)
  told_refusal e u =
      stays_shut after (Err e) ((listing e).0, (listing e).1)
      (subst (λ x. Unlocked o p s x after room (Err e)) place_is (subst (λ x. Unlocked o p s place after x (Err e)) lent u)) refl refl

  opened_key : (v : Unit {0}) (bytes : List ℕ) → bytes ≡ written (key_line h.mark.number after)
      → Unlocked o p s place after workspace (Ok v) → Unlocking o p s (Grants bytes)
  opened_key v bytes is u =
      gives_key after (Ok v)
      (subst (λ x. Unlocked o p s x after room (Ok v)) place_is (subst (λ x. Unlocked o p s place after x (Ok v)) lent u)) refl
      (ap Grants (is ∙ ap (λ m. written (key_line m after)) (sym (ap (λ (x : Option Heading). elim x [ Some y ↦ y.mark.number | None ↦ 0 ]) held))))

  module _ (r : Result (Unit {0}) SlotRefusal) (q : Result (Unit {0}) Stop) (kept : (v : Unit {0}) → r ≡ Ok v → q ≡ Ok v)
      (turned : (e : SlotRefusal) → r ≡ Err e → IsErrAnd q (λ z. Refusing z (Refuses (listing e).0 (listing e).1 no_line)))
      (u : Unlocked o p s place after workspace r) where
    told : Tells q (λ v. Unlocked o p s place after workspace (Ok v)) (λ a. Unlocking o p s a)
    told =
        mapped r q (λ e. Refuses (listing e).0 (listing e).1 no_line) _ _ kept turned
        (λ v is. subst (λ x. Unlocked o p s place after workspace x) is u) (λ e is. told_refusal e (subst (λ x. Unlocked o p s place after workspace x) is u))

    pub told_stop : (z : Stop) → q ≡ Err z → Stops z (λ a. Unlocking o p s a)
    told_stop z is = subst (λ x. Tells x (λ v. Unlocked o p s place after workspace (Ok v)) (λ a. Unlocking o p s a)) is told

    pub told_key : (v : Unit {0}) (bytes : List ℕ) → bytes ≡ written (key_line h.mark.number after) → q ≡ Ok v → Unlocking o p s (Grants bytes)
    told_key v bytes is kept_is =
        opened_key v bytes is (subst (λ x. Tells x (λ w. Unlocked o p s place after workspace (Ok w)) (λ a. Unlocking o p s a)) kept_is told)
