-- The plan of the Cauchy rows is sound, so that the checks answer for its groups of cards, and one verdict says what they answer.
-- Assumes nothing.
use Rattle.std.proofs.Common.{◌≡◌, ℕ, ◌+◌, ◌-◌, ◌*◌, ◌/◌, ◌%◌, ◌<◌, ◌≤◌, true, length, Some, None, Option, unwrap_or, sym, refl, ap, ◌∙◌, subst, arith}
use Rattle.std.proofs.lemmas.Nat.{mul-le}
use Rattle.std.proofs.lemmas.List.FromFn.{length-map-range_with_len, get_or-map-range_with_len}
use Rattle.std.proofs.lemmas.Bool.{both_ways}
use Rattle.field.specs.Codes.{Operations, Laws, minus, inverse}
use Rattle.field.specs.Refusals.{foremost, listing}
use Rattle.field.specs.Rows.{within, cauchy, cauchy_rows}
use Rattle.field.specs.declared.refusal.Refusal.{Refusal}
use Rattle.field.specs.Inverse.{inverse_product}
use Rattle.field.proofs.Limits.{within-parts}
use Rattle.sharing.specs.Scheme.{Plan, Sound}
use Rattle.sharing.specs.Secrecy.{Admits, Vets}
use Rattle.plan_check.specs.Checks.{Allowed, AllPass, Grants, Passes, Settled, Searched, table, failure, group_size}
use Rattle.plan_check.specs.declared.property.Property.{Property}
use Rattle.plan_check.specs.declared.property.Property.TheVariants.{Opening, Hiding}
use Rattle.plan_check.proofs.Answering.{table_none, only_answer}
use Rattle.plan_check.proofs.Faults.{some_none}
use Rattle.survey.specs.Verdicts.{cauchy_plan, Judged, Named, OnlyVerdict}
use Rattle.survey.specs.declared.verdict.Verdict.{Verdict}
use Rattle.survey.specs.declared.verdict.Verdict.TheVariants.{OutOfLimits, NotAdmitted, Tells, Vetted}

-- the rows have at most 64 numbers
pub rows_fit : (t n : ℕ) → within t n ≡ true → (n - t) * t ≤ 64
rows_fit t n inside = let limits = within-parts t n inside in mul-le (n - t) t 8 8 (omega arith) (omega arith)

module _ {o : Operations} (laws : Laws o) (t n : ℕ) where
  abbrev plan : Plan
  plan = cauchy_plan o t n

  -- the number of a Cauchy row is a code, or the 0 where there is no reciprocal
  cauchy-code : (c p : ℕ) → cauchy o c p < o.size
  cauchy-code c p = go (inverse o (minus o c p)) refl
    where
      go : (r : Option ℕ) → inverse o (minus o c p) ≡ r → unwrap_or r 0 < o.size
      go (Some x) e = (inverse_product o (minus o c p) x e).0
      go None e = omega (arith, laws.size_least)

  cauchy_sound : within t n ≡ true → Sound o plan
  cauchy_sound inside =
      let limits = within-parts t n inside in
      let number : ℕ → ℕ = λ i. cauchy o (t + i / t) (i % t) in
      let long : length (cauchy_rows o t n) ≡ (n - t) * t = length-map-range_with_len number 0 ((n - t) * t) in
      record {
        least = limits.0;
        ordered = limits.1;
        most = limits.2;
        long = long;
        codes = λ i h.
            let P : ℕ → Type 0 = λ x. x < o.size in
            subst P (sym (get_or-map-range_with_len number 0 ((n - t) * t) i i 0 (omega arith) (omega arith))) (cauchy-code (t + i / t) (i % t));
      }

  -- nothing but the groups decides what a check answers
  module _ (inside : within t n ≡ true) (w : Property) (a : Option (ℕ × ℕ)) where
    passes-table : foremost (table o plan 4096) ≡ None
    passes-table = table_none o plan 4096 (cauchy_sound inside) (omega arith)

    searched : Allowed w o plan 4096 a → Searched w o plan a
    searched h = let P : Option (ℕ × ℕ) → Type 0 = λ f. Settled w o plan f a in subst P passes-table h

    allowed : Searched w o plan a → Allowed w o plan 4096 a
    allowed h = let P : Option (ℕ × ℕ) → Type 0 = λ f. Settled w o plan f a in subst P (sym passes-table) h

  -- the bits b name the first group without a property
  module _ (inside : within t n ≡ true) (w : Property) (b : ℕ) (named : Named (Passes w o plan) n (group_size w t) b) where
    answered : Searched w o plan (Some (failure w, b))
    answered = (named.0, named.1, ap (λ x. (failure w, x)) named.2)

    -- no other group is the first without the property
    same_group : (c : ℕ) → Named (Passes w o plan) n (group_size w t) c → c ≡ b
    same_group c other =
        let one : Option (ℕ × ℕ) = Some (failure w, b) in
        let two : Option (ℕ × ℕ) = Some (failure w, c) in
        let found : Searched w o plan two = (other.0, other.1, ap (λ x. (failure w, x)) other.2) in
        let e : two ≡ one = only_answer w o plan 4096 one (allowed inside w one answered) two (allowed inside w two found) in
        ap (λ x. (unwrap_or {T = ℕ × ℕ} x (0, 0)).1) e

    -- and not all groups have it
    not_all : AllPass w o plan → ⊥
    not_all all =
        some_none (failure w, b)
        (only_answer w o plan 4096 None (allowed inside w None all) (Some (failure w, b)) (allowed inside w (Some (failure w, b)) answered))

  -- the verdicts, from what the checks answer of a plan q that is the plan of the Cauchy rows
  module _ (inside : within t n ≡ true) (q : Plan) (same : q ≡ plan) (room : ℕ) where
    found : (w : Property) (r : Refusal) → room ≡ 4096 → Allowed w o q room (Some (listing r)) → Searched w o plan (Some (listing r))
    found w r lent h =
        searched inside w (Some (listing r))
        (subst (λ x. Allowed w o plan x (Some (listing r))) lent (subst (λ p. Allowed w o p room (Some (listing r))) same h))

    pub shut : (r : Refusal) (b : ℕ) → b ≡ (listing r).1 → room ≡ 4096 → Allowed Opening o q room (Some (listing r)) → Judged o t n (NotAdmitted b)
    shut r b e lent h = let first = found Opening r lent h in (inside, (first.0, first.1, e ∙ ap (λ x. x.1) first.2))

    pub opening : Grants Opening o q room None → Admits o plan
    opening h = subst (λ p. Admits o p) same (h.0 refl).2

    pub telling : Admits o plan → (r : Refusal) (b : ℕ) → b ≡ (listing r).1 → room ≡ 4096 → Allowed Hiding o q room (Some (listing r)) → Judged o t n (Tells b)
    telling opens r b e lent h = let first = found Hiding r lent h in (inside, opens, (first.0, first.1, e ∙ ap (λ x. x.1) first.2))

    pub vetted : Admits o plan → Grants Hiding o q room None → Judged o t n Vetted
    vetted opens h = (inside, opens, subst (λ p. Vets o p) same (h.0 refl).2)

  -- of two verdicts that are so, each is the other
  pub only_verdict : (v : Verdict) → Judged o t n v → OnlyVerdict o t n v
  only_verdict OutOfLimits h OutOfLimits k = refl
  only_verdict OutOfLimits h (NotAdmitted c) k = absurd (both_ways (within t n) h k.0)
  only_verdict OutOfLimits h (Tells c) k = absurd (both_ways (within t n) h k.0)
  only_verdict OutOfLimits h Vetted k = absurd (both_ways (within t n) h k.0)
  only_verdict (NotAdmitted b) h OutOfLimits k = absurd (both_ways (within t n) k h.0)
  only_verdict (NotAdmitted b) h (NotAdmitted c) k = ap NotAdmitted (same_group h.0 Opening b h.1 c k.1)
  only_verdict (NotAdmitted b) h (Tells c) k = absurd (not_all h.0 Opening b h.1 k.1)
  only_verdict (NotAdmitted b) h Vetted k = absurd (not_all h.0 Opening b h.1 k.1)
  only_verdict (Tells b) h OutOfLimits k = absurd (both_ways (within t n) k h.0)
  only_verdict (Tells b) h (NotAdmitted c) k = absurd (not_all h.0 Opening c k.1 h.1)
  only_verdict (Tells b) h (Tells c) k = ap Tells (same_group h.0 Hiding b h.2 c k.2)
  only_verdict (Tells b) h Vetted k = absurd (not_all h.0 Hiding b h.2 k.2)
  only_verdict Vetted h OutOfLimits k = absurd (both_ways (within t n) k h.0)
  only_verdict Vetted h (NotAdmitted c) k = absurd (not_all h.0 Opening c k.1 h.1)
  only_verdict Vetted h (Tells c) k = absurd (not_all h.0 Hiding c k.2 h.2)
  only_verdict Vetted h Vetted k = refl
