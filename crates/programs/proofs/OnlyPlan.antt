-- A text has one plan at most, and a text without a plan, or with one that is not vetted, has one answer. Assumes nothing.
use Rattle.std.proofs.Common.{◌≡◌, ℕ, ◌+◌, ◌-◌, ◌<◌, true, List, [], ◌∷◌, get_or, Some, Err, Option, Result, sym, refl, ap, ◌∙◌, arith}
use mathlib.Core.Path.{transport}
use Rattle.std.proofs.lemmas.Bool.{and_from}
use Rattle.field.specs.Codes.{Operations}
use Rattle.field.specs.Known.{operations}
use Rattle.field.specs.declared.known.Known.{Known}
use Rattle.field.specs.declared.known.Known.TheVariants.{Bytes, Modulo97}
use Rattle.field.proofs.Limits.{within-parts}
use Rattle.sharing.specs.Scheme.{Plan, Sound}
use Rattle.plan_check.specs.Checks.{AllPass, Allowed}
use Rattle.plan_check.specs.declared.property.Property.{Property}
use Rattle.plan_check.specs.declared.property.Property.TheVariants.{Opening, Hiding}
use Rattle.plan_check.proofs.Answering.{grants, only_answer}
use Rattle.plan_check.proofs.Faults.{some_none}
use Rattle.lines.specs.Lines.{Content, among, planned, reading}
use Rattle.lines.specs.declared.fault.Fault.{Fault}
use Rattle.lines.specs.declared.kind.Kind.TheVariants as kind
use Rattle.lines.specs.declared.wanted.Wanted.{Wanted}
use Rattle.lines.specs.declared.wanted.Wanted.TheVariants as wanted
use Rattle.programs.specs.Answers.{Answer, at_line, no_line}
use Rattle.programs.specs.Answers.Answer.{Refuses}
use Rattle.programs.specs.Planning.{PlanLines, Unplanned}
use Rattle.programs.specs.Planning.Unplanned.{long_text, no_plan, no_row}
use Rattle.programs.specs.Texts.{Block, Broken, NoPlan, PlanHead, WantsPlan, known_marks, plan_line}
use Rattle.programs.specs.Vetting.{Fit, Passed, Unadmitted, Unvetted, room}
use Rattle.programs.specs.Vetting.Unvetted.{not_admitted, not_vetted}
use Rattle.programs.proofs.OnlyLines.{Reads, block_only, block_whole, broken_only, reads_written, reads_only, reads_fault}

-- a plan line of these marks is wanted; where the marks lie does not matter
abbrev wants : List ℕ → Wanted
wants marks = wanted.Plan (record { ref_ptr = (0, 0); now = marks })

same_reading : (w : Wanted) → WantsPlan w → (text : List ℕ) → reading w text ≡ reading (wants known_marks) text
same_reading (wanted.Plan m) e text = ap (λ ms. reading (wants ms) text) e
same_reading (wanted.Row t) e text = elim e [ ]
same_reading (wanted.Card m) e text = elim e [ ]
same_reading wanted.Key e text = elim e [ ]
same_reading (wanted.Dummy t l) e text = elim e [ ]

-- the mark of a field is known, and tells the field
mark_known : (known : Known) → (among (operations known).mark known_marks ≡ true) × ((operations known).mark < 256)
mark_known Bytes = (refl, omega arith)
mark_known Modulo97 = (refl, omega arith)

marks_field : (a b : Known) → (operations a).mark ≡ (operations b).mark → a ≡ b
marks_field Bytes Bytes e = refl
marks_field Bytes Modulo97 e = absurd (omega (arith, e))
marks_field Modulo97 Bytes e = absurd (omega (arith, e))
marks_field Modulo97 Modulo97 e = refl

plan_reads : (known : Known) (t n : ℕ) (text rest : List ℕ) → PlanHead known t n text rest → Reads (wants known_marks) text (plan_line (operations known).mark t n) rest
plan_reads known t n text rest h =
    let limits = within-parts t n h.limits in
    let mark = mark_known known in
    reads_written (wants known_marks) text (plan_line (operations known).mark t n) rest h.is refl
    (record { fields = (mark.1, (omega arith, (omega arith, tt))); numbers = tt; some = refl })
    (and_from (among (operations known).mark known_marks) (planned t n) mark.0 h.limits) refl

-- one plan line at most
pub plan_head_only : (a b : Known) (t n s m : ℕ) (text rest less : List ℕ) → PlanHead a t n text rest → PlanHead b s m text less
    → (a ≡ b) × (t ≡ s) × (n ≡ m) × (rest ≡ less)
plan_head_only a b t n s m text rest less h k =
    let same = reads_only (plan_reads a t n text rest h) (plan_reads b s m text less k) in
    let at : (i : ℕ) → get_or ((operations a).mark ∷ t ∷ n ∷ []) i 0 ≡ get_or ((operations b).mark ∷ s ∷ m ∷ []) i 0 = λ i. ap (λ c. get_or c.fields i 0) same.0 in
    (marks_field a b (at 0), at 1, at 2, same.1)

-- and then no fault
pub plan_head_read : (known : Known) (t n : ℕ) (text rest : List ℕ) (f : Fault) → PlanHead known t n text rest → NoPlan text f → ⊥
plan_head_read known t n text rest f h none = reads_fault (plan_reads known t n text rest h) (sym (same_reading none.0 none.1 text) ∙ none.2)

pub no_plan_only : (text : List ℕ) (f g : Fault) → NoPlan text f → NoPlan text g → f ≡ g
no_plan_only text f g none also =
    let e : ◌≡◌ {A = Result Content Fault} (Err f) (Err g) =
    sym none.2 ∙ same_reading none.0 none.1 text ∙ sym (same_reading also.0 also.1 text) ∙ also.2 in
    cc

-- rows have numbers
row_some : (known : Known) (t n : ℕ) (text rest : List ℕ) → PlanHead known t n text rest → 0 < t
row_some known t n text rest h = omega (arith, (within-parts t n h.limits).0)

-- the rows of one plan line, read twice
row_broken_only : (a b : Known) (t n s m : ℕ) (text rest less : List ℕ) (k l : ℕ) (f g : Fault) → PlanHead a t n text rest → PlanHead b s m text less
    → Broken (wanted.Row t) (n - t) k rest f → Broken (wanted.Row s) (m - s) l less g → (k ≡ l) × (f ≡ g)
row_broken_only a b t n s m text rest less k l f g h i x y =
    let same = plan_head_only a b t n s m text rest less h i in
    broken_only (wanted.Row s) tt (row_some b s m text less i) (m - s) k l less f g
    (transport (λ j. Broken (wanted.Row (same.1 j)) (same.2 j - same.1 j) k (same.3 j) f) x) y

module _ (text : List ℕ) where
  -- a text without a plan has one answer
  pub unplanned_only : (a b : Answer) → Unplanned text a → Unplanned text b → a ≡ b
  unplanned_only a b (long_text h is) (long_text i also) = is ∙ sym also
  unplanned_only a b (long_text h is) (no_plan i g ng also) = absurd (omega arith)
  unplanned_only a b (long_text h is) (no_row i known t n mid head k g br also) = absurd (omega arith)
  unplanned_only a b (no_plan h f nf is) (long_text i also) = absurd (omega arith)
  unplanned_only a b (no_plan h f nf is) (no_plan i g ng also) = is ∙ ap (λ x. at_line x 0) (no_plan_only text f g nf ng) ∙ sym also
  unplanned_only a b (no_plan h f nf is) (no_row i known t n mid head k g br also) = absurd (plan_head_read known t n text mid f head nf)
  unplanned_only a b (no_row h known t n mid head k f br is) (long_text i also) = absurd (omega arith)
  unplanned_only a b (no_row h known t n mid head k f br is) (no_plan i g ng also) = absurd (plan_head_read known t n text mid g head ng)
  unplanned_only a b (no_row h known t n mid head k f br is) (no_row i known' s m mid' head' l g br' also) =
      let same = row_broken_only known known' t n s m text mid mid' k l f g head head' br br' in
      is ∙ (λ j. at_line (same.1 j) (1 + same.0 j)) ∙ sym also

  -- and a text with a plan has none of them
  pub planned_not_unplanned : (known : Known) (t n : ℕ) (rows rest : List ℕ) (a : Answer) → PlanLines known t n rows text rest → Unplanned text a → ⊥
  planned_not_unplanned known t n rows rest a p (long_text h is) = omega (arith, p.short)
  planned_not_unplanned known t n rows rest a p (no_plan h f nf is) = plan_head_read known t n text p.middle f p.head nf
  planned_not_unplanned known t n rows rest a p (no_row h known' s m mid head k f br is) =
      let same = plan_head_only known known' t n s m text p.middle mid p.head head in
      block_whole (wanted.Row s) tt (row_some known' s m text mid head) (m - s) k mid rows rest f
      (transport (λ j. Block kind.Row (same.1 j) (same.2 j - same.1 j) (same.3 j) rows rest) p.rows_are) br

  -- a text has one plan, and one rest after it
  pub plan_lines_only : (a b : Known) (t n s m : ℕ) (rows rows' rest less : List ℕ) → PlanLines a t n rows text rest → PlanLines b s m rows' text less
      → (a ≡ b) × (t ≡ s) × (n ≡ m) × (rows ≡ rows') × (rest ≡ less)
  plan_lines_only a b t n s m rows rows' rest less p q =
      let same = plan_head_only a b t n s m text p.middle q.middle p.head q.head in
      let blocks = block_only (wanted.Row s) tt (row_some b s m text q.middle q.head) (m - s) q.middle rows rest rows' less
      (transport (λ j. Block kind.Row (same.1 j) (same.2 j - same.1 j) (same.3 j) rows rest) p.rows_are) q.rows_are in
      (same.0, same.1, same.2, blocks.0, blocks.1)

module _ (o : Operations) (p : Plan) where
  -- a check refuses in one way
  refused_only : (w : Property) (r s : ℕ × ℕ) → Allowed w o p room (Some r) → Allowed w o p room (Some s) → r ≡ s
  refused_only w r s h i = let e : ◌≡◌ {A = Option (ℕ × ℕ)} (Some r) (Some s) = only_answer w o p room (Some s) i (Some r) h in cc

  -- and refuses no plan that it should grant
  granted_only : (w : Property) (r : ℕ × ℕ) → Sound o p → AllPass w o p → Allowed w o p room (Some r) → ⊥
  granted_only w r sound all h = some_none r ((grants w o p room (Some r) h).1 (sound, omega arith, all))

  -- a plan that is not vetted has one answer
  pub unvetted_only : (a b : Answer) → Unvetted o p a → Unvetted o p b → a ≡ b
  unvetted_only a b (not_admitted r h is) (not_admitted s i also) = is ∙ ap (λ x. Refuses x.0 x.1 no_line) (refused_only Opening r s h i) ∙ sym also
  unvetted_only a b (not_admitted r h is) (not_vetted s sound admits i also) = absurd (granted_only Opening r sound admits h)
  unvetted_only a b (not_vetted r sound admits h is) (not_admitted s i also) = absurd (granted_only Opening s sound admits i)
  unvetted_only a b (not_vetted r sound admits h is) (not_vetted s sound' admits' i also) = is ∙ ap (λ x. Refuses x.0 x.1 no_line) (refused_only Hiding r s h i) ∙ sym also

  -- and a plan that is vetted has none of them
  pub passed_not_unvetted : (a : Answer) → Passed o p → Unvetted o p a → ⊥
  passed_not_unvetted a ok (not_admitted r h is) = granted_only Opening r ok.sound ok.admits h
  passed_not_unvetted a ok (not_vetted r sound admits h is) = granted_only Hiding r ok.sound ok.vets h

  -- a plan that is not admitted has one answer, and a plan that is admitted has none of them
  pub unadmitted_only : (a b : Answer) → Unadmitted o p a → Unadmitted o p b → a ≡ b
  unadmitted_only a b u v = u.2 ∙ ap (λ x. Refuses x.0 x.1 no_line) (refused_only Opening u.0 v.0 u.1 v.1) ∙ sym v.2

  pub fit_not_unadmitted : (a : Answer) → Fit o p → Unadmitted o p a → ⊥
  fit_not_unadmitted a fit u = granted_only Opening u.0 fit.sound fit.admits u.1
