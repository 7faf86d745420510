-- Deals of t numbers, which have one lane and no padding. Assumes nothing.
--   spelled   the key of t numbers whose number c is f c
use Rattle.std.proofs.Common.{◌≡◌, ℕ, ◌+◌, ◌-◌, ◌*◌, ◌<◌, List, map, get_or, replicate, sym, ap, ◌∙◌, subst, mul-one, arith}
use Rattle.std.specs.List.{range_with_len}
use Rattle.std.proofs.lemmas.List.FromFn.{length-map-range_with_len, get_or-map-range_with_len}
use Rattle.std.proofs.lemmas.List.{get_or_append_left}
use Rattle.field.specs.Codes.{Operations}
use Rattle.sharing.specs.Scheme.{Plan, Sound, Key, Dummies, Deal, lanes, padded}
use Rattle.sharing.proofs.Stores.{lanes_one, laid, length-laid, slice_index-laid, codes_laid}
use Rattle.sharing.proofs.Words.{key_number, dummy_number}

abbrev pub spelled : ℕ → (ℕ → ℕ) → List ℕ
spelled t f = map f (range_with_len 0 t)

pub key_spelled : (o : Operations) (t : ℕ) (f : ℕ → ℕ) → ((c : ℕ) → c < t → f c < o.size) → Key o t (spelled t f)
key_spelled o t f codes = (
  length-map-range_with_len f 0 t,
  λ c l.
      let h : c < t = omega (arith, l, length-map-range_with_len f 0 t) in
      subst (λ x. x < o.size) (sym (get_or-map-range_with_len f 0 t c c 0 h (omega arith))) (codes c h),
)

pub spelled-number : (t : ℕ) (f : ℕ → ℕ) (e c : ℕ) → 0 < t → e < lanes t t → c < t → key_number t t (spelled t f) e c ≡ f c
spelled-number t f e c pos he hc =
    let one : lanes t t ≡ 1 = lanes_one t pos in
    let at : c * lanes t t + e ≡ c = ap (λ b. c * b + e) one ∙ omega (arith, mul-one c) in
    ap (λ n. get_or (padded t t (spelled t f)) n 0) at
    ∙ get_or_append_left (spelled t f) (replicate (t * lanes t t - t) 0) 0 c (omega (arith, length-map-range_with_len f 0 t))
    ∙ get_or-map-range_with_len f 0 t c c 0 hc (omega arith)

-- dummy keys by their unknowns
pub dummies_laid : (o : Operations) (t L : ℕ) (X : ℕ → ℕ → ℕ)
    → ((e u : ℕ) → e < lanes t L → u < (t - 1) * t → X e u < o.size) → Dummies o t L (laid t (lanes t L) X)
dummies_laid o t L X codes = (length-laid t (lanes t L) X, codes_laid o t (lanes t L) X codes)

pub laid-number : (t L : ℕ) (X : ℕ → ℕ → ℕ) (e u : ℕ) → e < lanes t L → u < (t - 1) * t
    → dummy_number t L (laid t (lanes t L) X) e u ≡ X e u
laid-number t L X e u he hu = slice_index-laid t (lanes t L) X u e hu he

-- a key of t numbers and dummy keys by their unknowns are a deal
pub deal_of : (o : Operations) (p : Plan) → Sound o p → (f : ℕ → ℕ) (X : ℕ → ℕ → ℕ) → ((c : ℕ) → c < p.t → f c < o.size)
    → ((e u : ℕ) → e < lanes p.t p.t → u < (p.t - 1) * p.t → X e u < o.size)
    → Deal o p p.t (spelled p.t f) (laid p.t (lanes p.t p.t) X)
deal_of o p sound f X key-codes codes =
    record {
      some = omega (arith, sound.least);
      most = omega (arith, sound.ordered, sound.most);
      key_of = key_spelled o p.t f key-codes;
      dummies_of = dummies_laid o p.t p.t X codes;
    }
