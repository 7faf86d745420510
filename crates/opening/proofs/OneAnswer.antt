-- Whatever is handed in, one answer is allowed, and one content of the place for the key. Assumes nothing.
use Rattle.std.proofs.Common.{◌≡◌, ℕ, suc, ◌+◌, ◌-◌, ◌*◌, ◌/◌, ◌%◌, ◌<◌, ◌≤◌, cond, ◌⊎◌, List, [], ◌∷◌, length, get_or, take, is_ok, Some, None, Ok, Err, Option, Result, sym, refl, ap, ◌∙◌, ap₂, inl, inr, arith}
use Rattle.std.proofs.lemmas.Nat.{div-mul-add, mod-mul-add}
use Rattle.std.proofs.lemmas.List.FromFn.{length-map-range_with_len, get_or-map-range_with_len}
use Rattle.field.specs.Codes.{Operations, minus}
use Rattle.field.specs.Refusals.{listing, refused, foremost}
use Rattle.field.specs.declared.refusal.Refusal.{Refusal}
use Rattle.linear.proofs.Coded.{sum_cong}
use Rattle.sharing.specs.Groups.{Holds, bits}
use Rattle.sharing.specs.Scheme.{Plan, lanes}
use Rattle.sharing.proofs.Stores.{within, same_by_lanes}
use Rattle.plan_check.proofs.Faults.{some_none}
use Rattle.plan_check.proofs.Ranks.{Run, run_at, group_run}
use Rattle.opening.specs.Answers.{GroupOf, padding, Shut, Opened, Allowed, Answered, OnlyAnswer}
use Rattle.opening.specs.Tables.{table}
use Rattle.opening.specs.Words.{key_number, opened}
use Rattle.opening.proofs.Gathering.{holds_none, holds_rest, holds_cases}
use Rattle.opening.proofs.Settling.{opens_more}

-- what a run holds is not before its start
run_from : (c n : ℕ) (g : List ℕ) → Run c n g → (j : ℕ) → Holds g j → c ≤ j
run_from c n g run j h = omega (arith, (run_at c n g run h.0 h.1).0, h.2)

-- the first of a run is its least
first_least : (c n x : ℕ) (g : List ℕ) → Run c n (x ∷ g) → (j : ℕ) → Holds (x ∷ g) j → x ≤ j
first_least c n x g run j h =
    holds_cases j x g (λ e. omega arith) (λ rest. omega (arith, run_from (suc x) n g run.2 j rest)) h

-- without its first, a run holds what another with the same first and members holds without its own
tail_holds : (c d n x y : ℕ) (g h : List ℕ) → Run c n (x ∷ g) → x ≡ y → ((j : ℕ) → Holds (x ∷ g) j → Holds (y ∷ h) j)
    → (j : ℕ) → Holds g j → Holds h j
tail_holds c d n x y g h run same more j held =
    holds_cases j y h (λ e. absurd (omega (arith, run_from (suc x) n g run.2 j held))) (λ rest. rest)
    (more j (holds_rest j x g held))

-- runs with the same members are the same
same_run : (c d n : ℕ) (g h : List ℕ) → Run c n g → Run d n h → ((j : ℕ) → Holds g j → Holds h j) → ((j : ℕ) → Holds h j → Holds g j)
    → g ≡ h
same_run c d n [] [] gs hs more less = refl
same_run c d n [] (y ∷ h) gs hs more less = absurd (holds_none y (less y (0, omega arith, refl)))
same_run c d n (x ∷ g) [] gs hs more less = absurd (holds_none x (more x (0, omega arith, refl)))
same_run c d n (x ∷ g) (y ∷ h) gs hs more less =
    let below = first_least d n y h hs x (more x (0, omega arith, refl)) in
    let above = first_least c n x g gs y (less y (0, omega arith, refl)) in
    let same : x ≡ y = omega arith in
    ap₂ (λ k l. k ∷ l) same
    (same_run (suc x) (suc y) n g h gs.2 hs.2 (tail_holds c d n x y g h gs same more)
    (tail_holds d c n y x h g hs (sym same) less))

-- cards have one group
pub one_group : (p : Plan) (cards g h : List ℕ) → GroupOf p cards g → GroupOf p cards h → g ≡ h
one_group p cards g h gs hs =
    same_run 0 0 p.n g h (group_run p.n p.t g gs.is_group) (group_run p.n p.t h hs.is_group)
    (λ j held. (hs.members j).1 ((gs.members j).0 held)) (λ j held. (gs.members j).1 ((hs.members j).0 held))

-- words that agree open to the same padded key
pub opened_cong : (o : Operations) (t b : ℕ) (x y : (i e c : ℕ) → ℕ)
    → ((i e c : ℕ) → i < t → e < b → c < t → x i e c ≡ y i e c) → opened o t b x ≡ opened o t b y
opened_cong o t b x y same =
    same_by_lanes t b (opened o t b x) (opened o t b y) (size x) (size y)
    (λ c e hc he.
    at x c e hc he
    ∙ ap₂ (minus o) (same 0 e c (omega arith) he hc) (sum_cong o (t - 1) _ _ (λ i l. same (i + 1) e c (omega arith) he hc))
    ∙ sym (at y c e hc he))
  where
    size : (z : (i e c : ℕ) → ℕ) → length (opened o t b z) ≡ t * b
    size z = length-map-range_with_len (λ k. key_number o t z (k % b) (k / b)) 0 (t * b)

    at : (z : (i e c : ℕ) → ℕ) (c e : ℕ) → c < t → e < b → get_or (opened o t b z) (c * b + e) 0 ≡ key_number o t z e c
    at z c e hc he =
        get_or-map-range_with_len (λ k. key_number o t z (k % b) (k / b)) 0 (t * b) (c * b + e) (c * b + e) 0 (within t b c e hc he) (omega arith)
        ∙ ap₂ (key_number o t z) (mod-mul-add c b e he) (div-mul-add c b e he)

-- answers that refuse alike are granted alike
same_granted : {T : Type 0} (r s : Result T Refusal) → refused r ≡ refused s → is_ok r ≡ is_ok s
same_granted (Ok x) (Ok y) e = refl
same_granted (Ok x) (Err f) e = absurd (some_none (listing f) (sym e))
same_granted (Err f) (Ok y) e = absurd (some_none (listing f) e)
same_granted (Err f) (Err h) e = refl

module _ {T : Type 0} (o : Operations) (p : Plan) (cards «data» : List ℕ) (L : ℕ) (before : List ℕ) where
  shut_once : (a b : List ℕ) (r s : Result T Refusal) → Shut o p cards before a r → Shut o p cards before b s
      → (refused s ≡ refused r) × (b ≡ a)
  shut_once a b r s h k = (
    k.refusal ∙ ap (λ g. Some (0x15, bits g)) (one_group p cards k.group h.group k.of_cards h.of_cards) ∙ sym h.refusal,
    k.same ∙ sym h.same,
  )

  opened_once : (a b : List ℕ) (r s : Result T Refusal) → Opened o p cards «data» L before a r → Opened o p cards «data» L before b s
      → (refused s ≡ refused r) × (b ≡ a)
  opened_once a b r s h k =
      (refusal, k.place ∙ ap₂ (λ ok x. cond ok (take L x) before) (same_granted s r refusal) key ∙ sym h.place)
    where
      key : opened o p.t (lanes p.t L) k.words ≡ opened o p.t (lanes p.t L) h.words
      key = opened_cong o p.t (lanes p.t L) k.words h.words (h.only k.words k.given)

      refusal : refused s ≡ refused r
      refusal = k.refusal ∙ ap (λ x. foremost (padding L x)) key ∙ sym h.refusal

  never_both : (a b : List ℕ) (r s : Result T Refusal) → Shut o p cards before a r → Opened o p cards «data» L before b s → ⊥
  never_both a b r s h k =
      h.shut
      (opens_more o p k.group h.group (λ j held. (h.of_cards.members j).1 ((k.of_cards.members j).0 held)) k.opens)

  settled_once : (a b : List ℕ) (r s : Result T Refusal) → Shut o p cards before a r ⊎ Opened o p cards «data» L before a r
      → Shut o p cards before b s ⊎ Opened o p cards «data» L before b s → (refused s ≡ refused r) × (b ≡ a)
  settled_once a b r s (inl h) (inl k) = shut_once a b r s h k
  settled_once a b r s (inl h) (inr k) = absurd (never_both a b r s h k)
  settled_once a b r s (inr h) (inl k) = absurd (never_both b a s r k h)
  settled_once a b r s (inr h) (inr k) = opened_once a b r s h k

  answered_once : (f : Option (ℕ × ℕ)) (a b : List ℕ) (r s : Result T Refusal) → Allowed o p cards «data» L before a r f
      → Allowed o p cards «data» L before b s f → (refused s ≡ refused r) × (b ≡ a)
  answered_once (Some z) a b r s h k = (k.0 ∙ sym h.0, k.1 ∙ sym h.1)
  answered_once None a b r s h k = settled_once a b r s h k

  -- an answer that is allowed is the only one
  pub only_answer : (after : List ℕ) (workspace : ℕ) (r : Result T Refusal) → Answered o p cards «data» L before after workspace r
      → OnlyAnswer o p cards «data» L before after workspace r
  only_answer after workspace r answered place other answered' =
      answered_once (foremost (table o p cards «data» L (length before) workspace)) after place r other answered answered'
