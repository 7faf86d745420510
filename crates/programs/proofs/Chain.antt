-- What the parts of the dealing program answer makes what the whole answers. Assumes nothing.
use Rattle.std.proofs.Common.{◌≡◌, ℕ, ◌+◌, ◌-◌, ◌*◌, ◌<◌, ◌≤◌, Bool, true, false, cond, eqb, ltb, List, [], ◌∷◌, ◌++◌, length, replicate, Some, None, Ok, Err, Result, sym, refl, ap, ◌∙◌, subst, arith, length-append}
use Rattle.std.specs.Result.{IsErrAnd, is_ok}
use Rattle.std.proofs.lemmas.List.{get_or_append_left, get_or-append-add, nil_from_length}
use Rattle.std.proofs.lemmas.Bool.{eqb-true, eqb-false, false≢true, ltb-false}
use Rattle.field.specs.Codes.{Operations}
use Rattle.field.specs.Known.{operations}
use Rattle.field.specs.Refusals.{foremost, listing}
use Rattle.field.specs.declared.known.Known.{Known}
use Rattle.field.specs.declared.refusal.Refusal.{Refusal}
use Rattle.sharing.specs.Scheme.{Plan, Codes, Sound, lanes, padded, store}
use Rattle.sharing.specs.Secrecy.{Admits, Vets}
use Rattle.plan_check.specs.Checks.{Allowed, Grants}
use Rattle.plan_check.specs.Faults.{first_no_code}
use Rattle.plan_check.specs.declared.property.Property.TheVariants.{Opening, Hiding}
use Rattle.plan_check.proofs.Faults.{all_codes, none_missing, passed}
use Rattle.deal.specs.Faults.{at_fault, begin_rules}
use Rattle.lines.specs.Lines.{kind_of}
use Rattle.lines.specs.Readers.{Stand, ending, left, longest_text, opening, standing}
use Rattle.lines.specs.declared.fault.Fault.{Fault}
use Rattle.lines.specs.declared.fault.Fault.TheVariants.{Excess}
use Rattle.lines.specs.declared.kind.Kind.TheVariants as kind
use Rattle.lines.specs.declared.reader.Reader.{Reader}
use Rattle.lines.specs.declared.wanted.Wanted.{Wanted}
use Rattle.lines.specs.declared.wanted.Wanted.TheVariants as wanted
use Rattle.programs.specs.Answers.{Answer, Refusing, Says, Stops, Tells, at_line, no_line}
use Rattle.programs.specs.Answers.Answer.{Grants as Granted, Refuses}
use Rattle.programs.specs.Dealing.{Dealt, Examined, Unbegun, cards_text}
use Rattle.programs.specs.Dealing.Examined.{vetted}
use Rattle.programs.specs.Dealing.Dealt.{all_cards, unbegun}
use Rattle.programs.specs.Keys.{KeyLines}
use Rattle.programs.specs.Planning.{PlanLines, Unplanned}
use Rattle.programs.specs.Planning.Unplanned.{no_row}
use Rattle.programs.specs.Texts.{Block, Broken, PlanHead, width}
use Rattle.programs.specs.Vetting.{Fit, Passed, Unadmitted, Unvetted, room}
use Rattle.programs.specs.Vetting.Unvetted.{not_vetted}
use Rattle.programs.specs.declared.stop.Stop.{Stop}
use Rattle.programs.specs.declared.stop.Stop.TheVariants.{Refused, NoMemory}
use Rattle.programs.proofs.Heads.{block_shorter, plan_shorter, stops_more}
use Rattle.programs.proofs.Turns.{begun_store}

-- the refusal of a plan, a deal or an opening, that no line is to blame for
abbrev pub no_line_at : Refusal → Answer
no_line_at r = Refuses (listing r).0 (listing r).1 no_line

-- the first check
module _ (o : Operations) (p q : Plan) (same : q ≡ p) where
  pub unadmitted_by : (rm : ℕ) (r : Refusal) → rm ≡ room → Allowed Opening o q rm (Some (listing r)) → Unadmitted o p (no_line_at r)
  unadmitted_by rm r e h =
      (listing r, subst (λ x. Allowed Opening o p x (Some (listing r))) e (subst (λ x. Allowed Opening o x rm (Some (listing r))) same h), refl)

  pub fit_by : (rm : ℕ) → Grants Opening o q rm None → Fit o p
  fit_by rm admitted = let all = admitted.0 refl in record { sound = subst (Sound o) same all.0; admits = subst (λ x. Admits o x) same all.2 }

-- the second check, of a plan that is admitted
module _ (o : Operations) (p q : Plan) (same : q ≡ p) (fit : Fit o p) where
  pub unvetted_by : (rm : ℕ) (r : Refusal) → rm ≡ room → Allowed Hiding o q rm (Some (listing r)) → Unvetted o p (no_line_at r)
  unvetted_by rm r e h =
      not_vetted (listing r) fit.sound fit.admits
      (subst (λ x. Allowed Hiding o p x (Some (listing r))) e (subst (λ x. Allowed Hiding o x rm (Some (listing r))) same h)) refl

  pub passed_by : (rm : ℕ) → Grants Hiding o q rm None → Passed o p
  passed_by rm also = record { sound = fit.sound; admits = fit.admits; vets = subst (λ x. Vets o x) same (also.0 refl).2 }

-- a store that Begin's table passes is codes, and so are its parts
module _ (o : Operations) (p : Plan) (key dummies : List ℕ) where
  abbrev L : ℕ
  L = length key

  abbrev s : List ℕ
  s = store p.t L key dummies

  module _ (begun : foremost (begin_rules o p L s) ≡ None) where
    coded-store : Codes o s
    coded-store =
        let past = passed (0x18, _, 0) (at_fault 0x19 (first_no_code o s) ∷ []) (begun_store o p L s begun) in
        let none = none_missing (first_no_code o s) (passed (at_fault 0x19 (first_no_code o s)) [] past.1).0 in
        all_codes o s none

    pub dealt_of : (mark line : ℕ) (text : List ℕ) → KeyLines p.t mark key dummies text [] → Dealt o p line text (Granted (cards_text o p mark L s))
    dealt_of mark line text lines =
        all_cards mark key dummies lines
        (record {
          some = lines.key_is.some;
          most = lines.key_is.most;
          key_of = (
            refl,
            λ i h. subst (λ x. x < o.size) (get_or_append_left key pad 0 i h)
                (subst (λ x. x < o.size) (get_or_append_left (padded p.t L key) dummies 0 i (omega (arith, length-append key pad, h)))
                (coded-store i (omega (arith, length-append (padded p.t L key) dummies, length-append key pad, h)))),
          );
          dummies_of = (
            lines.dummies_are.long,
            λ i h. subst (λ x. x < o.size) (get_or-append-add (padded p.t L key) dummies i 0)
                (coded-store (length (padded p.t L key) + i) (omega (arith, length-append (padded p.t L key) dummies, h))),
          );
        })
        refl
      where
        pad : List ℕ
        pad = replicate (p.t * lanes p.t L - L) 0

-- a granted value or a stop says what follows from what it says
pub tells_more : {T : Type 0} (r : Result T Stop) (P P' : T → Type 0) (Q Q' : Answer → Type 0)
    → ((x : T) → P x → P' x) → ((a : Answer) → Q a → Q' a) → Tells r P Q → Tells r P' Q'
tells_more (Ok x) P P' Q Q' f h t = f x t
tells_more (Err s) P P' Q Q' f h t = stops_more s Q Q' h t

-- the exit of a `?` that passes a stop on
pub passes_on : {T : Type 0} (r : Result T Stop) (s : Stop) (P : T → Type 0) (Q Q' : Answer → Type 0)
    → IsErrAnd r (λ y. y ≡ s) → ((a : Answer) → Q a → Q' a) → Stops s Q → Tells r P Q'
passes_on (Ok x) s P Q Q' e f h = absurd e
passes_on (Err y) s P Q Q' e f h = subst (λ z. Stops z Q') (sym e) (stops_more s Q Q' f h)

-- the exit of a `?` that makes a stop of a refusal
pub turns_into : {T : Type 0} (r : Result T Stop) (a : Answer) (P : T → Type 0) (Q : Answer → Type 0)
    → IsErrAnd r (λ s. Refusing s a) → Q a → Tells r P Q
turns_into (Ok x) a P Q e h = absurd e
turns_into (Err (Refused n)) a P Q e h = subst Q e h
turns_into (Err NoMemory) a P Q e h = absurd e

-- the exit of a `?` where memory is wanting
pub no_memory : {T : Type 0} (r : Result T Stop) (P : T → Type 0) (Q : Answer → Type 0) → IsErrAnd r (λ s. s ≡ NoMemory) → Tells r P Q
no_memory r P Q e = passes_on r NoMemory P Q Q e (λ a q. q) tt

-- an error that a `map_err` turns into a stop
pub mapped : {T E : Type 0} (r : Result T E) (q : Result T Stop) (at : E → Answer) (P : T → Type 0) (Q : Answer → Type 0)
    → ((x : T) → r ≡ Ok x → q ≡ Ok x) → ((e : E) → r ≡ Err e → IsErrAnd q (λ s. Refusing s (at e)))
    → ((x : T) → r ≡ Ok x → P x) → ((e : E) → r ≡ Err e → Q (at e)) → Tells q P Q
mapped (Ok x) q at P Q kept turned f h = subst (λ z. Tells z P Q) (sym (kept x refl)) (f x refl)
mapped (Err e) q at P Q kept turned f h = turns_into q (at e) P Q (turned e refl) (h e refl)

-- what is said is what was told
pub said : {T : Type 0} (text : T → List ℕ) (r : Result T Stop) (P : Answer → Type 0) (a : Answer) → Tells r (λ x. P (Granted (text x))) P → Says text r a → P a
said text (Ok x) P a t e = subst P (sym e) t
said text (Err (Refused n)) P a t e = subst P (sym e) t
said text (Err NoMemory) P a t e = absurd e

-- nothing is left, or something is
ending-cases : (b : Bool) (A : Type 0) → (b ≡ true → A) → (b ≡ false → A) → A
ending-cases true A f h = f refl
ending-cases false A f h = h refl

pub ended : (rest : List ℕ) → is_ok (ending rest) ≡ true → rest ≡ []
ended rest e =
    ending-cases (eqb (length rest) 0) (rest ≡ []) (λ b. nil_from_length rest (eqb-true (length rest) 0 b))
    (λ b. absurd (false≢true (sym (ap (λ x. is_ok (cond x (Ok tt) (Err Excess))) b) ∙ e)))

pub unended : (rest : List ℕ) → is_ok (ending rest) ≡ false → 0 < length rest
unended rest e =
    ending-cases (eqb (length rest) 0) (0 < length rest)
    (λ b. absurd (false≢true (sym e ∙ ap (λ x. is_ok (cond x (Ok tt) (Err Excess))) b)))
    (λ b. omega (arith, eqb-false (length rest) 0 b))

-- the end of the dealing, in the terms of the code
module _ (o : Operations) (p : Plan) (t mark size line : ℕ) (key dummies text rest st : List ℕ) (et : t ≡ p.t) (lines : KeyLines t mark key dummies text rest)
    (est : st ≡ store t (length key) key dummies) (es : size ≡ length key) (er : rest ≡ []) where
  all_read : KeyLines p.t mark key dummies text []
  all_read = subst (λ x. KeyLines x mark key dummies text []) et (subst (λ r. KeyLines t mark key dummies text r) er lines)

  same_store : st ≡ store p.t (length key) key dummies
  same_store = est ∙ ap (λ x. store x (length key) key dummies) et

  pub dealt_grants : (bytes : List ℕ) → (foremost (begin_rules o p size st) ≡ None) × (bytes ≡ cards_text o p mark size st) → Dealt o p line text (Granted bytes)
  dealt_grants bytes h =
      subst (λ b. Dealt o p line text (Granted b)) (sym (h.1 ∙ (λ i. cards_text o p mark (es i) (same_store i))))
      (dealt_of o p key dummies ((λ i. foremost (begin_rules o p (sym es i) (sym same_store i))) ∙ h.0) mark line text all_read)

  pub dealt_refuses : (a : Answer) → Unbegun o p size st a → Dealt o p line text a
  dealt_refuses a u = unbegun mark key dummies all_read (u.0, (λ i. foremost (begin_rules o p (sym es i) (sym same_store i))) ∙ u.1, u.2)

pub examined_by : (o : Operations) (p q : Plan) (line line' : ℕ) (text : List ℕ) (a : Answer) → Passed o p → q ≡ p → line ≡ line' → Dealt o q line text a → Examined o p line' text a
examined_by o p q line line' text a ok e l d = vetted ok (subst (λ x. Dealt o p x text a) l (subst (λ x. Dealt o x line text a) e d))

-- a reader that was opened stands at the start of its text
pub opened_at : (r : Reader) (text : List ℕ) → Ok (standing r) ≡ opening text → (left (standing r) ≡ text) × (length text ≤ longest_text)
opened_at r text e =
    ending-cases (ltb longest_text (length text)) ((left (standing r) ≡ text) × (length text ≤ longest_text))
    (λ b. let f : ◌≡◌ {A = Result Stand Fault} (Ok (standing r)) (Err Excess) = e ∙ ap (λ x. cond x (Err Excess) (Ok (record { text = text; start = 0; number = 0 }))) b in let z : ◌≡◌ {A = ℕ} 0 1 = cc in absurd (omega arith))
    (λ b. let f : ◌≡◌ {A = Result Stand Fault} (Ok (standing r)) (Ok (record { text = text; start = 0; number = 0 })) = e ∙ ap (λ x. cond x (Err Excess) (Ok (record { text = text; start = 0; number = 0 }))) b in
    let h : standing r ≡ record { text = text; start = 0; number = 0 } = cc in
    (ap left h, ltb-false longest_text (length text) b))

-- the lines of a plan that were read, in the terms of the code
pub planned-by : (known : Known) (t n : ℕ) (text start mid rest items was xs : List ℕ) (w : Wanted)
    → start ≡ text → length text ≤ longest_text → PlanHead known t n start mid → w ≡ wanted.Row t → was ≡ [] → items ≡ was ++ xs
    → Block (kind_of w) (width w) (n - t) mid xs rest → PlanLines known t n items text rest
planned-by known t n text start mid rest items was xs w es short head ew none ei block = record {
  short = short;
  middle = mid;
  head = subst (λ x. PlanHead known t n x mid) es head;
  rows_are = subst (λ x. Block kind.Row t (n - t) mid x rest) (sym (ei ∙ ap (λ l. l ++ xs) none))
      (subst (λ x. Block (kind_of x) (width x) (n - t) mid xs rest) ew block);
}

-- a row that is at fault, in the terms of the code
pub unrowed_by : (known : Known) (t n : ℕ) (text start mid : List ℕ) (w : Wanted) (a : Answer) → start ≡ text → length text ≤ longest_text → PlanHead known t n start mid
    → w ≡ wanted.Row t → (k : ℕ) × (f : Fault) × Broken w (n - t) k mid f × (a ≡ at_line f (1 + k)) → Unplanned text a
unrowed_by known t n text start mid w a es short head ew b =
    no_row short known t n mid (subst (λ x. PlanHead known t n x mid) es head) b.0 b.1 (subst (λ x. Broken x (n - t) b.0 mid b.1) ew b.2) b.3

-- what is left after the lines of a plan is not too long
pub plan_lines_shorter : (known : Known) (t n : ℕ) (rows text rest : List ℕ) → PlanLines known t n rows text rest → length rest ≤ longest_text
plan_lines_shorter known t n rows text rest p =
    omega (arith, p.short, plan_shorter known t n text p.middle p.head, block_shorter kind.Row t (n - t) p.middle rows rest p.rows_are)

-- what holds of the field that was chosen holds of that of the plan
pub in_field : (R : Operations → Type 0) (known field : Known) → known ≡ field → R (operations field) → R (operations known)
in_field R known field e r = subst (λ k. R (operations k)) (sym e) r
