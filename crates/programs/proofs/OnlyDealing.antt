-- The dealing program has one answer to a text. Assumes nothing.
--   Ended    the answer once the lines of a key are read: text after them, no deal is begun, or the cards
--   Keyed    the lines of a key are read, and then there is such an answer
use Rattle.std.proofs.Common.{◌≡◌, ℕ, ◌+◌, ◌-◌, ◌<◌, Bool, ◌⊎◌, List, [], length, get_or, Some, Err, Option, Result, sym, refl, ap, ◌∙◌, inl, inr, arith}
use mathlib.Core.Path.{transport}
use Rattle.std.proofs.lemmas.Bool.{le-leb, lt-ltb}
use Rattle.field.specs.Codes.{Operations}
use Rattle.field.specs.Known.{operations}
use Rattle.sharing.specs.Scheme.{Deal, Plan, plan_of, store}
use Rattle.sharing.proofs.Stores.{lanes_enough}
use Rattle.plan_check.proofs.Faults.{some_none}
use Rattle.lines.specs.Lines.{Content, padded}
use Rattle.lines.specs.declared.fault.Fault.{Fault}
use Rattle.lines.specs.declared.kind.Kind.TheVariants as kind
use Rattle.lines.specs.declared.wanted.Wanted.TheVariants as wanted
use Rattle.programs.specs.Answers.{Answer, at_line, granted, no_line, output}
use Rattle.programs.specs.Answers.Answer.{Grants, Refuses}
use Rattle.programs.specs.Dealing.{Dealing, Dealt, Examined, OnlyDealing, Unbegun, cards_text}
use Rattle.programs.specs.Dealing.Dealt.{all_cards, more_text, unbegun, unkeyed}
use Rattle.programs.specs.Dealing.Examined.{unvetted, vetted}
use Rattle.programs.specs.Keys.{KeyLines, Unkeyed}
use Rattle.programs.specs.Keys.Unkeyed.{no_dummy, no_key}
use Rattle.programs.specs.Texts.{Block, Broken, KeyHead, key_line}
use Rattle.programs.specs.Vetting.{Passed}
use Rattle.programs.proofs.Beginning.{begins}
use Rattle.programs.proofs.OnlyLines.{Reads, block_only, block_whole, broken_only, reads_fault, reads_only, reads_written}
use Rattle.programs.proofs.OnlyPlan.{passed_not_unvetted, plan_lines_only, planned_not_unplanned, unplanned_only, unvetted_only}
use Rattle.programs.proofs.PlanFirst.{PlanFirst, plan_first}
use Rattle.programs.proofs.PlanFirst.PlanFirst.{without, after_plan}

key_reads : (mark : ℕ) (key text rest : List ℕ) → KeyHead mark key text rest → Reads wanted.Key text (key_line mark key) rest
key_reads mark key text rest h =
    reads_written wanted.Key text (key_line mark key) rest h.is refl
    (record { fields = (h.four, tt); numbers = h.bytes; some = sym (lt-ltb 0 (length key) h.some) }) (le-leb (length key) 64 h.most) refl

-- one key line at most
key_head_only : (mark mark' : ℕ) (key key' text rest less : List ℕ) → KeyHead mark key text rest → KeyHead mark' key' text less
    → (mark ≡ mark') × (key ≡ key') × (rest ≡ less)
key_head_only mark mark' key key' text rest less h i =
    let same = reads_only (key_reads mark key text rest h) (key_reads mark' key' text less i) in
    (ap (λ c. get_or c.fields 0 0) same.0, ap (λ c. c.numbers) same.0, same.1)

module _ (t : ℕ) (pos : 0 < t) (text : List ℕ) where
  -- dummy keys have numbers
  dummy_some : (mark : ℕ) (key rest : List ℕ) → KeyHead mark key text rest → 0 < padded t (length key)
  dummy_some mark key rest h = omega (arith, lanes_enough t (length key) pos, h.some)

  -- a text begins with the lines of one key
  pub keys_only : (mark mark' : ℕ) (key key' dummies dummies' rest less : List ℕ) → KeyLines t mark key dummies text rest → KeyLines t mark' key' dummies' text less
      → (mark ≡ mark') × (key ≡ key') × (dummies ≡ dummies') × (rest ≡ less)
  keys_only mark mark' key key' dummies dummies' rest less k l =
      let same = key_head_only mark mark' key key' text k.middle l.middle k.key_is l.key_is in
      let blocks = block_only (wanted.Dummy t (length key')) tt (dummy_some mark' key' l.middle l.key_is) (t - 1) l.middle dummies rest dummies' less
      (transport (λ i. Block kind.Dummy (padded t (length (same.1 i))) (t - 1) (same.2 i) dummies rest) k.dummies_are) l.dummies_are in
      (same.0, same.1, blocks.0, blocks.1)

  module _ (line : ℕ) where
    -- and then they are not at fault
    pub keyed_not_unkeyed : (mark : ℕ) (key dummies rest : List ℕ) (a : Answer) → KeyLines t mark key dummies text rest → Unkeyed t line text a → ⊥
    keyed_not_unkeyed mark key dummies rest a k (no_key f e is) = reads_fault (key_reads mark key text k.middle k.key_is) e
    keyed_not_unkeyed mark key dummies rest a k (no_dummy mark' key' mid head j f br is) =
        let same = key_head_only mark mark' key key' text k.middle mid k.key_is head in
        block_whole (wanted.Dummy t (length key')) tt (dummy_some mark' key' mid head) (t - 1) j mid dummies rest f
        (transport (λ i. Block kind.Dummy (padded t (length (same.1 i))) (t - 1) (same.2 i) dummies rest) k.dummies_are) br

    -- lines of a key that are at fault have one answer
    pub unkeyed_only : (a b : Answer) → Unkeyed t line text a → Unkeyed t line text b → a ≡ b
    unkeyed_only a b (no_key f e is) (no_key g h also) =
        let faults : ◌≡◌ {A = Result Content Fault} (Err f) (Err g) = sym e ∙ h in
        let same : f ≡ g = cc in
        is ∙ ap (λ x. at_line x line) same ∙ sym also
    unkeyed_only a b (no_key f e is) (no_dummy mark key mid head j g br also) = absurd (reads_fault (key_reads mark key text mid head) e)
    unkeyed_only a b (no_dummy mark key mid head j f br is) (no_key g e also) = absurd (reads_fault (key_reads mark key text mid head) e)
    unkeyed_only a b (no_dummy mark key mid head j f br is) (no_dummy mark' key' mid' head' l g br' also) =
        let same = key_head_only mark mark' key key' text mid mid' head head' in
        let at = broken_only (wanted.Dummy t (length key')) tt (dummy_some mark' key' mid' head') (t - 1) j l mid' f g
        (transport (λ i. Broken (wanted.Dummy t (length (same.1 i))) (t - 1) j (same.2 i) f) br) br' in
        is ∙ (λ i. at_line (at.1 i) (line + 1 + at.0 i)) ∙ sym also

module _ (o : Operations) (p : Plan) where
  pub data Ended (mark : ℕ) (key dummies rest : List ℕ) (a : Answer) : Type 0 where
    after : 0 < length rest → a ≡ Refuses 0x46 0 no_line → Ended mark key dummies rest a
    never : rest ≡ [] → Unbegun o p (length key) (store p.t (length key) key dummies) a → Ended mark key dummies rest a
    all : rest ≡ [] → Deal o p (length key) key dummies → a ≡ Grants (cards_text o p mark (length key) (store p.t (length key) key dummies)) → Ended mark key dummies rest a

  module _ (ok : Passed o p) (mark : ℕ) (key dummies rest : List ℕ) where
    begun_or_not : (a : Answer) → Deal o p (length key) key dummies → Unbegun o p (length key) (store p.t (length key) key dummies) a → ⊥
    begun_or_not a deal none = some_none none.0 (sym none.1 ∙ begins o p (length key) key dummies ok.sound deal)

    ended_only : (a b : Answer) → Ended mark key dummies rest a → Ended mark key dummies rest b → a ≡ b
    ended_only a b (after h is) (after i also) = is ∙ sym also
    ended_only a b (after h is) (never i u) = absurd (omega (arith, ap length i))
    ended_only a b (after h is) (all i d also) = absurd (omega (arith, ap length i))
    ended_only a b (never h u) (after i also) = absurd (omega (arith, ap length h))
    ended_only a b (never h u) (never i v) =
        let e : ◌≡◌ {A = Option (ℕ × ℕ)} (Some u.0) (Some v.0) = sym u.1 ∙ v.1 in
        let same : u.0 ≡ v.0 = cc in
        u.2 ∙ ap (λ r. Refuses r.0 r.1 no_line) same ∙ sym v.2
    ended_only a b (never h u) (all i d also) = absurd (begun_or_not a d u)
    ended_only a b (all h d is) (after i also) = absurd (omega (arith, ap length h))
    ended_only a b (all h d is) (never i u) = absurd (begun_or_not b d u)
    ended_only a b (all h d is) (all i c also) = is ∙ sym also

  module _ (ok : Passed o p) (line : ℕ) (text : List ℕ) where
    pos : 0 < p.t
    pos = omega (arith, ok.sound.least)

    abbrev Keyed : Answer → Type 0
    Keyed a = (mark : ℕ) × (key : List ℕ) × (dummies : List ℕ) × (rest : List ℕ) × KeyLines p.t mark key dummies text rest × Ended mark key dummies rest a

    parted : (a : Answer) → Dealt o p line text a → Unkeyed p.t line text a ⊎ Keyed a
    parted a (unkeyed u) = inl u
    parted a (more_text mark key dummies rest k h is) = inr (mark, key, dummies, rest, k, after h is)
    parted a (unbegun mark key dummies k u) = inr (mark, key, dummies, [], k, never refl u)
    parted a (all_cards mark key dummies k d is) = inr (mark, key, dummies, [], k, all refl d is)

    dealt_only : (a b : Answer) → Dealt o p line text a → Dealt o p line text b → a ≡ b
    dealt_only a b x y = go (parted a x) (parted b y)
      where
        go : Unkeyed p.t line text a ⊎ Keyed a → Unkeyed p.t line text b ⊎ Keyed b → a ≡ b
        go (inl u) (inl v) = unkeyed_only p.t pos text line a b u v
        go (inl u) (inr k) = absurd (keyed_not_unkeyed p.t pos text line k.0 k.1 k.2 k.3 a k.4 u)
        go (inr k) (inl u) = absurd (keyed_not_unkeyed p.t pos text line k.0 k.1 k.2 k.3 b k.4 u)
        go (inr k) (inr l) =
            let same = keys_only p.t pos text k.0 l.0 k.1 l.1 k.2 l.2 k.3 l.3 k.4 l.4 in
            ended_only ok l.0 l.1 l.2 l.3 a b (transport (λ i. Ended (same.0 i) (same.1 i) (same.2 i) (same.3 i) a) k.5) l.5

  -- the text after the lines of a plan has one answer
  pub examined_only : (line : ℕ) (text : List ℕ) (a b : Answer) → Examined o p line text a → Examined o p line text b → a ≡ b
  examined_only line text a b (unvetted u) (unvetted v) = unvetted_only o p a b u v
  examined_only line text a b (unvetted u) (vetted ok d) = absurd (passed_not_unvetted o p a ok u)
  examined_only line text a b (vetted ok d) (unvetted u) = absurd (passed_not_unvetted o p b ok u)
  examined_only line text a b (vetted ok d) (vetted ok' e) = dealt_only ok line text a b d e

first_only : (text : List ℕ) (a b : Answer) → PlanFirst text a → PlanFirst text b → a ≡ b
first_only text a b (without u) (without v) = unplanned_only text a b u v
first_only text a b (without u) (after_plan known t n rows rest p e) = absurd (planned_not_unplanned text known t n rows rest a p u)
first_only text a b (after_plan known t n rows rest p e) (without u) = absurd (planned_not_unplanned text known t n rows rest b p u)
first_only text a b (after_plan known t n rows rest p e) (after_plan known' s m rows' less q f) =
    let same = plan_lines_only text known known' t n s m rows rows' rest less p q in
    examined_only (operations known') (plan_of s m rows') (1 + (m - s)) less a b
    (transport (λ i. Examined (operations (same.0 i)) (plan_of (same.1 i) (same.2 i) (same.3 i)) (1 + (same.2 i - same.1 i)) (same.4 i) a) e) f

pub dealing_only : (text : List ℕ) (a b : Answer) → Dealing text a → Dealing text b → a ≡ b
dealing_only text a b d e = first_only text a b (plan_first text a d) (plan_first text b e)

-- so an answer that is written is the only one
pub only_dealing : (text : List ℕ) (a : Answer) (bytes : List ℕ) (flag : Bool) → Dealing text a → bytes ≡ output a → flag ≡ granted a → OnlyDealing text bytes flag
only_dealing text a bytes flag d is also b e = let same = dealing_only text b a e d in (ap output same ∙ sym is, ap granted same ∙ sym also)
