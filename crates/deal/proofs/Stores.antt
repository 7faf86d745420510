-- A store that Begin takes is the store of a deal, and the store of a deal is one that Begin takes. Assumes nothing.
use Rattle.std.proofs.Common.{◌≡◌, ℕ, zero, suc, ◌+◌, ◌-◌, ◌*◌, ◌<◌, ◌≤◌, true, false, not, ◌&&◌, eqb, leb, List, ◌++◌, length, get_or, take, drop, replicate, is_some, None, sym, ap, ◌∙◌, subst, ap₂, ⊎_elim, suc-mul, arith}
use Rattle.std.proofs.lemmas.List.{ext_get_or, length-append, length-take-le, length-drop, take-append-drop, get_or_append_left, get_or-append_right, get_or-replicate, get_or-take, get_or-drop}
use Rattle.std.proofs.lemmas.Bool.{not-false, not_from_true, eqb-true, eq-eqb, leb-true, le-leb, lt-leb, and_parts, and_from, and_left, and_right, cases_lt}
use Rattle.field.specs.Codes.{Operations}
use Rattle.field.specs.Inverse.{first_none}
use Rattle.sharing.specs.Scheme.{Plan, Sound, Codes, Key, Dummies, Deal, lanes, padded, store}
use Rattle.sharing.proofs.Stores.{lanes_enough, length-padded, codes_all, codes_append, codes_padded}
use Rattle.plan_check.specs.Faults.{first_no_code}
use Rattle.plan_check.proofs.Faults.{all_codes, none_missing, none_no_code}
use Rattle.plan_check.proofs.First.{first_nothing}
use Rattle.deal.specs.Faults.{store_rules, stray_padding, begin_rules}
use Rattle.deal.proofs.Faults.{Clear, sound_plan, faultless}

-- one block and t − 1 more are t blocks
blocks : (t w : ℕ) → 0 < t → w + (t - 1) * w ≡ t * w
blocks zero w pos = absurd (omega arith)
blocks (suc t) w pos =
    let same : suc t - 1 ≡ t = omega arith in
    ap (λ k. w + k * w) same ∙ omega (arith, suc-mul t w)

module _ (o : Operations) (some : 0 < o.size) (t L : ℕ) (key dummies : List ℕ) (pos : 0 < t)
    (is_key : Key o L key) (are-dummies : Dummies o t L dummies) where
  length-store : length (store t L key dummies) ≡ t * (t * lanes t L)
  length-store =
      length-append (padded t L key) dummies
      ∙ ap₂ (λ a b. a + b) (length-padded t L key pos is_key.0) are-dummies.0
      ∙ blocks t (t * lanes t L) pos

  codes_store : Codes o (store t L key dummies)
  codes_store i lt =
      codes_append o (padded t L key) dummies (codes_padded o some t L key is_key.1) (codes_all o some dummies are-dummies.1) i

  pub store_fits : Clear (store_rules o t L (store t L key dummies))
  store_fits = (
    not_from_true (eqb (length (store t L key dummies)) (t * (t * lanes t L))) (eq-eqb _ _ length-store),
    (ap is_some (none_no_code o (store t L key dummies) codes_store), tt),
  )

  pub padding_zero : stray_padding t L (store t L key dummies) ≡ None
  padding_zero = first_nothing _ (t * lanes t L) (λ i lt. ⊎_elim (before i) (past i lt) (cases_lt i L))
    where
      before : (i : ℕ) → i < L → (leb L i && not (eqb (get_or (store t L key dummies) i 0) 0)) ≡ false
      before i lt = and_left (leb L i) (not (eqb (get_or (store t L key dummies) i 0) 0)) (lt-leb L i lt)

      past : (i : ℕ) → i < t * lanes t L → L ≤ i → (leb L i && not (eqb (get_or (store t L key dummies) i 0) 0)) ≡ false
      past i lt le =
          let zeros : List ℕ = replicate (t * lanes t L - L) 0 in
          let within : i < length (padded t L key) = omega (arith, length-padded t L key pos is_key.0) in
          let is_zero : get_or (store t L key dummies) i 0 ≡ 0 =
          get_or_append_left (padded t L key) dummies 0 i within ∙ get_or-append_right key zeros L i 0 is_key.0 le
          ∙ get_or-replicate (t * lanes t L - L) (i - L) 0 0 (omega arith) in
          and_right (leb L i) (not (eqb (get_or (store t L key dummies) i 0) 0)) (not_from_true (eqb (get_or (store t L key dummies) i 0) 0) (eq-eqb _ _ is_zero))

-- Begin takes the store of a deal
pub begins : (o : Operations) → 0 < o.size → (p : Plan) (L : ℕ) (key dummies : List ℕ) → Sound o p → Deal o p L key dummies
    → Clear (begin_rules o p L (store p.t L key dummies))
begins o some p L key dummies sound deal =
    let pos : 0 < p.t = omega (arith, sound.least) in
    let plan = faultless o p sound in
    let fits = store_fits o some p.t L key dummies pos deal.key_of deal.dummies_of in (
      plan.0,
      (
        plan.1.0,
        (
          plan.1.1.0,
          (
            not_from_true (leb 1 L && leb L 64) (and_from (leb 1 L) (leb L 64) (le-leb 1 L deal.some) (le-leb L 64 deal.most)),
            (fits.0, (fits.1.0, (ap is_some (padding_zero o some p.t L key dummies pos deal.key_of deal.dummies_of), tt))),
          ),
        ),
      ),
    )

-- the key is the first L numbers, and the dummy keys are what follows the first t times b
padded_key : (t L : ℕ) (s : List ℕ) → 0 < t → t * lanes t L ≤ length s
    → ((i : ℕ) → L ≤ i → i < t * lanes t L → get_or s i 0 ≡ 0) → take (t * lanes t L) s ≡ padded t L (take L s)
padded_key t L s pos long zeros =
    ext_get_or 0 (take (t * lanes t L) s) (padded t L (take L s)) (length-take-le (t * lanes t L) s long ∙ sym (length-padded t L (take L s) pos key_long))
    (λ i lt. let within : i < t * lanes t L = omega (arith, length-take-le (t * lanes t L) s long) in
    get_or-take (t * lanes t L) s i 0 within ∙ ⊎_elim (front i) (back i within) (cases_lt i L))
  where
    rest : List ℕ
    rest = replicate (t * lanes t L - L) 0

    key_long : length (take L s) ≡ L
    key_long = length-take-le L s (omega (arith, lanes_enough t L pos))

    front : (i : ℕ) → i < L → get_or s i 0 ≡ get_or (padded t L (take L s)) i 0
    front i lt =
        let within : i < length (take L s) = omega (arith, key_long) in
        sym (get_or_append_left (take L s) rest 0 i within ∙ get_or-take L s i 0 lt)

    back : (i : ℕ) → i < t * lanes t L → L ≤ i → get_or s i 0 ≡ get_or (padded t L (take L s)) i 0
    back i within le =
        zeros i le within
        ∙ sym (get_or-append_right (take L s) rest L i 0 key_long le ∙ get_or-replicate (t * lanes t L - L) (i - L) 0 0 (omega arith))

-- a store that Begin takes
pub dealt : (o : Operations) (p : Plan) (L : ℕ) (s : List ℕ) → Clear (begin_rules o p L s)
    → (key : List ℕ) × (dummies : List ℕ) × Deal o p L key dummies × (s ≡ store p.t L key dummies)
dealt o p L s clear = (
  take L s,
  drop w s,
  record {
    some = leb-true 1 L limits.0;
    most = leb-true L 64 limits.1;
    key_of = (
      key_long,
      λ i lt.
          let short : i < L = omega (arith, key_long) in
          subst (λ x. x < o.size) (sym (get_or-take L s i 0 short)) (codes i (omega (arith, enough, whole))),
    );
    dummies_of = (
      length-drop w s ∙ omega (arith, whole),
      λ i lt.
          subst (λ x. x < o.size) (sym (get_or-drop w s i 0)) (codes (w + i) (omega (arith, length-drop w s))),
    );
  },
  sym (take-append-drop w s) ∙ ap (λ a. a ++ drop w s) (padded_key p.t L s pos (omega (arith, whole)) zeros),
)
  where
    sound : Sound o p
    sound = sound_plan o p (clear.0, (clear.1.0, (clear.1.1.0, tt)))

    pos : 0 < p.t
    pos = omega (arith, sound.least)

    w : ℕ
    w = p.t * lanes p.t L

    limits : (leb 1 L ≡ true) × (leb L 64 ≡ true)
    limits = and_parts (leb 1 L) (leb L 64) (not-false (leb 1 L && leb L 64) clear.1.1.1.0)

    long : length s ≡ p.t * w
    long = eqb-true (length s) (p.t * w) (not-false (eqb (length s) (p.t * w)) clear.1.1.1.1.0)

    whole : w + (p.t - 1) * w ≡ length s
    whole = blocks p.t w pos ∙ sym long

    enough : L ≤ w
    enough = lanes_enough p.t L pos

    key_long : length (take L s) ≡ L
    key_long = length-take-le L s (omega (arith, whole, enough))

    codes : Codes o s
    codes = all_codes o s (none_missing (first_no_code o s) clear.1.1.1.1.1.0)

    zeros : (i : ℕ) → L ≤ i → i < w → get_or s i 0 ≡ 0
    zeros i le lt =
        let none = none_missing (stray_padding p.t L s) clear.1.1.1.1.1.1.0 in
        let passed : (leb L i && not (eqb (get_or s i 0) 0)) ≡ false = first_none _ w i none lt in
        eqb-true (get_or s i 0) 0 (not-false (eqb (get_or s i 0) 0) (sym (ap (λ b. b && not (eqb (get_or s i 0) 0)) (le-leb L i le)) ∙ passed))
