-- Both laws for the rotated scheme. Assumes nothing.
use Rattle.std.proofs.Common.{◌≡◌, ℕ, ◌-◌, ◌<◌, ◌≤◌, Bool, true, false, ◌&&◌, ◌||◌, leb, List, get_or, replicate, is_some, None, ap, ◌∙◌, ap₂, arith}
use Rattle.std.proofs.lemmas.Bool.{and_parts, not-false, leb-true}
use Rattle.field.specs.Codes.{Operations}
use Rattle.field.specs.Rows.{within}
use Rattle.field.specs.Refusals.{foremost}
use Rattle.sharing.specs.Scheme.{Plan, Sound, Key, Dummies, Deal, store}
use Rattle.sharing.specs.Secrecy.{Vets}
use Rattle.lines.specs.declared.mark.DealMark.{DealMark}
use Rattle.plan_check.specs.Faults.{faults}
use Rattle.deal.specs.declared.state.CardState.{CardState}
use Rattle.deal.specs.declared.state.CardState.TheVariants.{Waiting}
use Rattle.deal.specs.Sharings.{rotated}
use Rattle.deal.specs.Faults.{store_rules, begin_rules}
use Rattle.deal.specs.Calls.{tally, fresh}
use Rattle.deal.specs.Onlooker.{Onlooker, Begun, DealLaws}
use Rattle.deal.proofs.Faults.{Clear, clear-table, no_refusal, sound_plan, faultless}
use Rattle.deal.proofs.Stores.{store_fits, begins, dealt}
use Rattle.deal.proofs.Tallies.{tally_same, tally_none}
use Rattle.deal.proofs.Accounts.{all_wait, accounts}
use Rattle.deal.proofs.Onlooker.{Hiding, hidden}

module _ (o : Operations) (some : 0 < o.size) (p : Plan) (sound : Sound o p) (L : ℕ) where
  fit : (key dummies : List ℕ) → Key o L key → Dummies o p.t L dummies → (rotated o p L).unfit (store p.t L key dummies) ≡ false
  fit key dummies is_key are-dummies =
      ap₂ (λ a b. is_some a || is_some b) (no_refusal (faults o p) (faultless o p sound))
      (no_refusal (store_rules o p.t L (store p.t L key dummies)) (store_fits o some p.t L key dummies (omega (arith, sound.least)) is_key are-dummies))

  hiding : Vets o p → 1 ≤ L → L ≤ 64 → Hiding (rotated o) p L p.n (p.t - 1) (Key o L) (Dummies o p.t L) (store p.t L)
  hiding vets low high g group key dummies key' is_key are-dummies is-key' =
      let found = vets g group L key dummies key' (record { some = low; most = high; key_of = is_key; dummies_of = are-dummies }) is-key' in
      (found.0, found.1.0, found.1.1, λ other are-other alike. found.2 other (are-other, alike))

  -- the law of the onlooker, for a plan that is vetted in this field
  pub onlooker : Vets o p → (mark : DealMark) (key dummies : List ℕ) → Deal o p L key dummies
      → Onlooker o (fresh mark p.t p.n L) p key dummies
  onlooker vets mark key dummies deal = record {
    begins = λ key' dummies' is_key are-dummies.
        no_refusal (begin_rules o p L (store p.t L key' dummies'))
        (begins o some p L key' dummies' sound (record { some = deal.some; most = deal.most; key_of = is_key; dummies_of = are-dummies }));
    hidden =
        hidden (rotated o) (fresh mark p.t p.n L) p (p.t - 1) (Key o L) (Dummies o p.t L) (store p.t L)
        (omega (arith, sound.ordered)) fit (hiding vets deal.some deal.most) key dummies deal.key_of deal.dummies_of;
  }

-- a deal that Begin grants
pub begun : (o : Operations) → 0 < o.size → (p : Plan) (mark : DealMark) (L : ℕ) (s : List ℕ)
    → foremost (begin_rules o p L s) ≡ None → Begun o (fresh mark p.t p.n L) p s
begun o some p mark L s none =
    let clear = clear-table (begin_rules o p L s) none in
    let sound = sound_plan o p (clear.0, (clear.1.0, (clear.1.1.0, tt))) in
    let deal = dealt o p L s clear in
    (deal.0, deal.1, deal.2, deal.3, λ vets. onlooker o some p sound L vets mark deal.0 deal.1 deal.2)

-- both laws
pub deal_laws : (o : Operations) → 0 < o.size → DealLaws o
deal_laws o some = record {
  accounts = λ p sound mark L. accounts (rotated o) mark p.t p.n L sound.most;
  onlooker = λ p sound vets mark L. onlooker o some p sound L vets mark;
}

-- what a deal that Begin grants starts from
pub begin_limits : (o : Operations) (p : Plan) (L : ℕ) (s : List ℕ) → Clear (begin_rules o p L s)
    → (within p.t p.n ≡ true) × (1 ≤ L) × (L ≤ 64)
begin_limits o p L s clear =
    let size = and_parts (leb 1 L) (leb L 64) (not-false (leb 1 L && leb L 64) clear.1.1.1.0) in
    (not-false (within p.t p.n) clear.0, leb-true 1 L size.0, leb-true L 64 size.1)

-- none of its cards is out or written
pub fresh_none : (f : CardState → Bool) → f Waiting ≡ false → (n : ℕ) → tally (λ j. f (get_or (replicate 8 Waiting) j Waiting)) n ≡ 0
fresh_none f e n = tally_same (λ j. f (get_or (replicate 8 Waiting) j Waiting)) (λ j. false) n (λ j _. ap f (all_wait 8 j) ∙ e) ∙ tally_none n
