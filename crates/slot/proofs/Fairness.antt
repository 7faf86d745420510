-- What always holds of what a slot holds, from an empty slot on, card by card. Assumes nothing.
use Rattle.std.proofs.Common.{◌≡◌, ℕ, ◌*◌, ◌<◌, true, false, ◌&&◌, eqb, ltb, List, [], length, get_or, replicate, is_some, Some, None, Option, unwrap_or, sym, refl, ap, ◌∙◌, ⊎_elim, arith}
use Rattle.std.proofs.lemmas.List.{get_or_past, get_or-replicate, length-replicate}
use Rattle.std.proofs.lemmas.Bool.{and_from, and_parts, cases_lt, eqb-true, ltb-true, not-false, false≢true}
use Rattle.sharing.specs.Scheme.{lanes}
use Rattle.lines.specs.Lines.{Content, Kept, padded, planned, sized}
use Rattle.lines.specs.declared.wanted.Wanted.TheVariants as wanted
use Rattle.slot.specs.Holdings.{Holding, card_length, most, within_limits}
use Rattle.slot.specs.Inserts.{differs, heading_of, held_at, inserted, nothing, number_of, same_heading}
use Rattle.slot.specs.declared.phase.Heading.{Heading}
use Rattle.slot.proofs.Coding.{placed_set}
use Rattle.slot.proofs.Unlocking.{Fair}

-- a place under a heading: a card there has its number and its length
abbrev Placed : Option Heading → ℕ → Option (List ℕ) → Type 0
Placed first k c = is_some c ≡ true → (k < most first) × (length (unwrap_or c []) ≡ card_length first)

fair_of : (s : Holding) → within_limits s.first ≡ true → ((k : ℕ) → Placed s.first k (held_at s k)) → Fair s
fair_of s limits all = record { limits = limits; below = λ k e. (all k e).0; long = λ k e. (all k e).1 }

-- an empty slot holds no card
pub none_held : (k : ℕ) → held_at nothing k ≡ None
none_held k =
    ⊎_elim (λ lt. get_or-replicate {A = Option (List ℕ)} 8 k None None lt)
    (λ past. get_or_past (replicate {A = Option (List ℕ)} 8 None) k None (omega (arith, length-replicate {A = Option (List ℕ)} 8 None, past))) (cases_lt k 8)

pub fair_nothing : Fair nothing
fair_nothing = record { limits = refl; below = λ k e. absurd (none k e); long = λ k e. absurd (none k e) }
  where
    none : (k : ℕ) → is_some (held_at nothing k) ≡ true → ⊥
    none k e = false≢true (ap is_some (sym (none_held k)) ∙ e)

module _ (mark : ℕ) (c : Content) (kept : Kept (wanted.Card mark) c) where
  abbrev h : Heading
  h = heading_of c

  limits_parts : (planned h.t h.n ≡ true) × (number_of c < h.n) × (sized h.size ≡ true)
  limits_parts =
      let a = and_parts (eqb (get_or c.fields 0 0) mark) (planned h.t h.n && (ltb (number_of c) h.n && sized h.size)) kept.limits in
      let b = and_parts (planned h.t h.n) (ltb (number_of c) h.n && sized h.size) a.1 in
      let e = and_parts (ltb (number_of c) h.n) (sized h.size) b.1 in
      (b.0, ltb-true (number_of c) h.n e.0, e.1)

  new : Placed (Some h) (number_of c) (Some c.numbers)
  new e = (limits_parts.1, eqb-true (length c.numbers) (padded h.t h.size) kept.count)

  -- the same heading, or an empty slot
  pub fair_inserted : (s : Holding) → differs s.first h ≡ false → Fair s → Fair (inserted s c)
  fair_inserted s same fair = go s.first same fair.limits (λ k e. (fair.below k e, fair.long k e))
    where
      go : (first : Option Heading) → differs first h ≡ false → within_limits first ≡ true → ((k : ℕ) → Placed first k (held_at s k))
          → Fair (inserted (record { first = first; cards = s.cards }) c)
      go None d l old =
          fair_of (inserted (record { first = None; cards = s.cards }) c) (and_from (planned h.t h.n) (sized h.size) limits_parts.0 limits_parts.2)
          (placed_set (Placed (Some h)) s.cards (number_of c) (Some c.numbers) (λ k e. absurd (false≢true e)) new
          (λ k e. absurd (omega (arith, (old k e).0))))
      go (Some f) d l old =
          let parts = and_parts (eqb f.mark.number h.mark.number) _ (not-false (same_heading f h) d) in
          let ts = and_parts (eqb f.t h.t) _ parts.1 in
          let ns = and_parts (eqb f.n h.n) (eqb f.size h.size) ts.1 in
          let et = eqb-true f.t h.t ts.0 in
          let en = eqb-true f.n h.n ns.0 in
          let es = eqb-true f.size h.size ns.1 in
          fair_of (inserted (record { first = Some f; cards = s.cards }) c) l
          (placed_set (Placed (Some f)) s.cards (number_of c) (Some c.numbers) (λ k e. absurd (false≢true e))
          (λ e. (omega (arith, limits_parts.1, en), (new e).1 ∙ sym (λ i. et i * lanes (et i) (es i)))) old)
