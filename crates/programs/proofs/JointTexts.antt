-- The lines of a text that was dealt: its plan, its key and its cards; and the plan before other lines. Assumes nothing.
--   plan_contents   the lines of a plan
--   DealtFrom       the deal that a program granted: its plan passed, the lines of its key, its cards
use Rattle.std.proofs.Common.{◌≡◌, ℕ, zero, suc, ◌+◌, ◌-◌, ◌<◌, ◌≤◌, false, List, [], ◌∷◌, ◌++◌, map, length, drop, sym, refl, ap, ◌∙◌, append_assoc, one-add, arith, length-append, length-take}
use mathlib.Core.Path.{transport}
use Rattle.std.specs.Int.Digits.{AllBelowBase}
use Rattle.std.specs.List.{AllByRecursion}
use Rattle.std.proofs.ByRecursion.{All-drop, All-take}
use Rattle.std.proofs.lemmas.List.{length-map}
use Rattle.std.proofs.lemmas.Bool.{true≢false}
use Rattle.field.specs.Codes.{Operations}
use Rattle.field.specs.Known.{operations}
use Rattle.field.specs.declared.known.Known.{Known}
use Rattle.field.proofs.Limits.{within-parts}
use Rattle.sharing.specs.Scheme.{Deal, Plan, plan_of, store}
use Rattle.lines.specs.Lines.{Content}
use Rattle.lines.specs.Readers.{line_text}
use Rattle.lines.specs.Writing.{written}
use Rattle.lines.specs.declared.kind.Kind.TheVariants as kind
use Rattle.programs.specs.Answers.{Answer, granted, output}
use Rattle.programs.specs.Answers.Answer.{Grants}
use Rattle.programs.specs.Dealing.{Dealing, Dealt, Examined, cards_text}
use Rattle.programs.specs.Dealing.Dealt.{all_cards, more_text, unbegun, unkeyed}
use Rattle.programs.specs.Dealing.Examined.{unvetted, vetted}
use Rattle.programs.specs.Joint.{front, line_at}
use Rattle.programs.specs.Keys.{KeyLines, Unkeyed}
use Rattle.programs.specs.Keys.Unkeyed.{no_dummy, no_key}
use Rattle.programs.specs.Planning.{PlanLines}
use Rattle.programs.specs.Texts.{data_line, key_line, parts, plan_line, text_of}
use Rattle.programs.specs.Vetting.{Passed, Unvetted}
use Rattle.programs.specs.Vetting.Unvetted.{not_admitted, not_vetted}
use Rattle.programs.proofs.JointLines.{Modest, first-written, front-written, line_behind, lines_most}
use Rattle.programs.proofs.OnlyPlan.{plan_lines_only, planned_not_unplanned}
use Rattle.programs.proofs.PlanFirst.{PlanFirst, plan_first}
use Rattle.programs.proofs.PlanFirst.PlanFirst.{without, after_plan}

-- what is granted is no refusal
unvetted_refuses : (o : Operations) (p : Plan) (a : Answer) → Unvetted o p a → granted a ≡ false
unvetted_refuses o p a (not_admitted r h is) = ap granted is
unvetted_refuses o p a (not_vetted r sound admits h is) = ap granted is

unkeyed_refuses : (t line : ℕ) (text : List ℕ) (a : Answer) → Unkeyed t line text a → granted a ≡ false
unkeyed_refuses t line text a (no_key f e is) = ap granted is
unkeyed_refuses t line text a (no_dummy mark key middle head k f br is) = ap granted is

pub record DealtFrom (o : Operations) (p : Plan) (text cards : List ℕ) : Type 0 where
  pub passed : Passed o p
  pub mark : ℕ
  pub key : List ℕ
  pub dummies : List ℕ
  pub keyed : KeyLines p.t mark key dummies text []
  pub deal : Deal o p (length key) key dummies
  pub is : cards ≡ cards_text o p mark (length key) (store p.t (length key) key dummies)

module _ (o : Operations) (p : Plan) (line : ℕ) (text cards : List ℕ) where
  dealt_from : (a : Answer) → a ≡ Grants cards → Passed o p → Dealt o p line text a → DealtFrom o p text cards
  dealt_from a e ok (unkeyed u) = absurd (true≢false (ap granted (sym e) ∙ unkeyed_refuses p.t line text a u))
  dealt_from a e ok (more_text mark key dummies rest k h is) = absurd (true≢false (ap granted (sym e ∙ is)))
  dealt_from a e ok (unbegun mark key dummies k u) = absurd (true≢false (ap granted (sym e ∙ u.2)))
  dealt_from a e ok (all_cards mark key dummies k d is) =
      record { passed = ok; mark = mark; key = key; dummies = dummies; keyed = k; deal = d; is = ap output (sym e ∙ is) }

  examined_from : (a : Answer) → a ≡ Grants cards → Examined o p line text a → DealtFrom o p text cards
  examined_from a e (unvetted u) = absurd (true≢false (ap granted (sym e) ∙ unvetted_refuses o p a u))
  examined_from a e (vetted ok d) = dealt_from a e ok d

module _ (known : Known) (t n : ℕ) (rows : List ℕ) where
  -- a text with a plan that is granted
  first_granted : (text cards rest : List ℕ) → PlanLines known t n rows text rest → PlanFirst text (Grants cards)
      → DealtFrom (operations known) (plan_of t n rows) rest cards
  first_granted text cards rest p (without u) = absurd (planned_not_unplanned text known t n rows rest (Grants cards) p u)
  first_granted text cards rest p (after_plan known' s m rows' less q e) =
      let same = plan_lines_only text known' known s m t n rows' rows less rest q p in
      transport (λ i. DealtFrom (operations (same.0 i)) (plan_of (same.1 i) (same.2 i) (same.3 i)) (same.4 i) cards)
      (examined_from (operations known') (plan_of s m rows') (1 + (m - s)) less cards (Grants cards) refl e)

  pub granted_from : (text cards rest : List ℕ) → PlanLines known t n rows text rest → Dealing text (Grants cards)
      → DealtFrom (operations known) (plan_of t n rows) rest cards
  granted_from text cards rest p d = first_granted text cards rest p (plan_first text (Grants cards) d)

  abbrev pub plan_contents : List Content
  plan_contents = plan_line (operations known).mark t n ∷ map (data_line kind.Row) (parts (n - t) t rows)

  length-parts : (k w : ℕ) (xs : List ℕ) → length (parts k w xs) ≡ k
  length-parts zero w xs = refl
  length-parts (suc k) w xs = ap suc (length-parts k w (drop w xs))

  plan-length : length plan_contents ≡ 1 + (n - t)
  plan-length =
      ap suc (length-map (parts (n - t) t rows) (data_line kind.Row) ∙ length-parts (n - t) t rows) ∙ sym (one-add (n - t))

  modest_rows : (k w : ℕ) (xs : List ℕ) → w ≤ 70 → AllBelowBase 256 xs → AllByRecursion Modest (map (data_line kind.Row) (parts k w xs))
  modest_rows zero w xs h u = tt
  modest_rows (suc k) w xs h u = (
    record { bytes = All-take (λ d. d < 256) w xs u; few = omega (arith, h, length-take w xs) },
    modest_rows k w (drop w xs) h (All-drop (λ d. d < 256) w xs u),
  )

  module _ (text rest : List ℕ) (plan : PlanLines known t n rows text rest) where
    plan_modest : AllByRecursion Modest plan_contents
    plan_modest =
        let limits = within-parts t n plan.head.limits in
        (record { bytes = tt; few = omega arith }, modest_rows (n - t) t rows (omega (arith, limits)) plan.rows_are.bytes)

    plan_is : text ≡ text_of plan_contents ++ rest
    plan_is =
        plan.head.is
        ∙ ap (λ l. written (plan_line (operations known).mark t n) ++ l) plan.rows_are.is
        ∙ sym (append_assoc (written (plan_line (operations known).mark t n)) (text_of (map (data_line kind.Row) (parts (n - t) t rows))) rest)

    -- the plan's lines of a text, and the line behind them
    pub plan_front : front (1 + (n - t)) text ≡ text_of plan_contents
    plan_front = (λ i. front (sym plan-length i) (plan_is i)) ∙ front-written plan_contents rest plan_modest

    pub plan_behind : line_at (1 + (n - t)) text ≡ line_text rest
    plan_behind = (λ i. line_at (sym plan-length i) (plan_is i)) ∙ line_behind plan_contents rest plan_modest

    -- at most t lines more make a text with the same plan
    pub plan_before : (cs : List Content) → AllByRecursion Modest cs → length cs ≤ t
        → PlanLines known t n rows (text_of plan_contents ++ text_of cs) (text_of cs)
    plan_before cs modest few =
        let limits = within-parts t n plan.head.limits in
        let row-lines = text_of (map (data_line kind.Row) (parts (n - t) t rows)) in
        record {
          short = omega (arith, length-append (text_of plan_contents) (text_of cs), lines_most plan_contents plan_modest, lines_most cs modest, plan-length, limits, few);
          middle = row-lines ++ text_of cs;
          head = record { limits = plan.head.limits; is = append_assoc (written (plan_line (operations known).mark t n)) row-lines (text_of cs) };
          rows_are = record { bytes = plan.rows_are.bytes; long = plan.rows_are.long; is = refl };
        }

-- the key's line
pub key_first : (t mark : ℕ) (key dummies text rest : List ℕ) → KeyLines t mark key dummies text rest → line_text text ≡ written (key_line mark key)
key_first t mark key dummies text rest k =
    ap line_text k.key_is.is
    ∙ first-written (key_line mark key) k.middle (record { bytes = k.key_is.bytes; few = omega (arith, k.key_is.most) })
