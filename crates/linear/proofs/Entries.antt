-- Entries of a matrix that stands row by row in a list, and loops that change them column by column. Assumes nothing.
--   Between       the columns from k to below c hold new numbers, the others the old ones
use Rattle.std.proofs.Common.{◌≡◌, ℕ, suc, ◌+◌, ◌*◌, ◌/◌, ◌%◌, ◌<◌, ◌≤◌, ltb, ◌≢◌, List, length, set, sym, ap, ◌∙◌, ⊎_elim, suc-mul, arith}
use Rattle.std.proofs.lemmas.Nat.{div-mul-add, mod-mul-add, mul-le}
use Rattle.std.proofs.lemmas.List.{get_or-set_same, get_or-set_other, length-set}
use Rattle.std.proofs.lemmas.Bool.{lt-ltb, le-ltb, cases_eq, cases_lt, cond-true, cond-false}
use Rattle.linear.specs.Pivots.{entry, past, swapped}
use Rattle.linear.proofs.Swaps.{swapped-first, swapped_second, swapped_other}

-- entries that stand at one place are one entry
pub place_row : (w r x k c : ℕ) → x < w → c < w → r * w + x ≡ k * w + c → r ≡ k
place_row w r x k c hx hc e = sym (div-mul-add r w x hx) ∙ ap (λ i. i / w) e ∙ div-mul-add k w c hc

pub place_column : (w r x k c : ℕ) → x < w → c < w → r * w + x ≡ k * w + c → x ≡ c
place_column w r x k c hx hc e = sym (mod-mul-add r w x hx) ∙ ap (λ i. i % w) e ∙ mod-mul-add k w c hc

-- a row stands within the matrix
pub row_within : (w n r : ℕ) → r < n → r * w + w ≤ n * w
row_within w n r h = omega (arith, mul-le (suc r) w n w h (omega arith), suc-mul r w)

-- a write leaves the other rows and the other columns as they were
pub entry_set_row : (w : ℕ) (s : List ℕ) (k c v r x : ℕ) → x < w → c < w → r ≢ k
    → entry w (set s (k * w + c) v) r x ≡ entry w s r x
entry_set_row w s k c v r x hx hc a = get_or-set_other s (k * w + c) (r * w + x) v 0 (λ e. a (place_row w r x k c hx hc e))

pub entry_set_column : (w : ℕ) (s : List ℕ) (k c v r x : ℕ) → x < w → c < w → x ≢ c
    → entry w (set s (k * w + c) v) r x ≡ entry w s r x
entry_set_column w s k c v r x hx hc a =
    get_or-set_other s (k * w + c) (r * w + x) v 0 (λ e. a (place_column w r x k c hx hc e))

pub entry_set : (w : ℕ) (s : List ℕ) (k c v : ℕ) → k * w + c < length s → entry w (set s (k * w + c) v) k c ≡ v
entry_set w s k c v h = get_or-set_same s (k * w + c) v 0 h

pub past-before : (k c old new : ℕ) → c < k → past k c old new ≡ old
past-before k c old new h = cond-true (ltb c k) old new (lt-ltb c k h)

pub past_from : (k c old new : ℕ) → k ≤ c → past k c old new ≡ new
past_from k c old new h = cond-false (ltb c k) old new (le-ltb c k h)

-- the columns from k to below c hold new numbers, the others what s holds
abbrev pub Between : ℕ → ℕ → ℕ → List ℕ → (ℕ → ℕ → ℕ) → List ℕ → Type 0
Between w k c s new t = (r x : ℕ) → x < w → entry w t r x ≡ past k x (entry w s r x) (past c x (new r x) (entry w s r x))

module _ (w k : ℕ) (s : List ℕ) (new : ℕ → ℕ → ℕ) where
  -- a column not yet reached
  pub between_old : (c : ℕ) (t : List ℕ) → Between w k c s new t → (r x : ℕ) → k ≤ c → c ≤ x → x < w → entry w t r x ≡ entry w s r x
  between_old c t b r x kc cx h =
      b r x h ∙ past_from k x (entry w s r x) (past c x (new r x) (entry w s r x)) (omega arith) ∙ past_from c x (new r x) (entry w s r x) cx

  -- one column more
  pub between_more : (c : ℕ) (t u : List ℕ) → Between w k c s new t → k ≤ c
      → ((r x : ℕ) → x < w → x ≢ c → entry w u r x ≡ entry w t r x) → ((r : ℕ) → entry w u r c ≡ new r c) → Between w k (c + 1) s new u
  between_more c t u b kc others here r x h = ⊎_elim at off (cases_eq x c)
    where
      at : x ≡ c → entry w u r x ≡ past k x (entry w s r x) (past (c + 1) x (new r x) (entry w s r x))
      at e =
          ap (entry w u r) e
          ∙ here r
          ∙ ap (new r) (sym e)
          ∙ sym
          (past_from k x (entry w s r x) (past (c + 1) x (new r x) (entry w s r x)) (omega arith)
          ∙ past-before (c + 1) x (new r x) (entry w s r x) (omega arith))

      same : x ≢ c → past c x (new r x) (entry w s r x) ≡ past (c + 1) x (new r x) (entry w s r x)
      same a =
          ⊎_elim
          (λ l. past-before c x (new r x) (entry w s r x) l ∙ sym (past-before (c + 1) x (new r x) (entry w s r x) (omega arith)))
          (λ l. past_from c x (new r x) (entry w s r x) l ∙ sym (past_from (c + 1) x (new r x) (entry w s r x) (omega arith)))
          (cases_lt x c)

      off : x ≢ c → entry w u r x ≡ past k x (entry w s r x) (past (c + 1) x (new r x) (entry w s r x))
      off a = others r x h a ∙ b r x h ∙ ap (past k x (entry w s r x)) (same a)

  -- one column more, where only row q has a new number
  pub between_write : (c q v : ℕ) (t : List ℕ) → Between w k c s new t → k ≤ c → c < w → q * w + c < length t
      → v ≡ new q c → ((r : ℕ) → r ≢ q → new r c ≡ entry w s r c) → Between w k (c + 1) s new (set t (q * w + c) v)
  between_write c q v t b kc h within e others =
      between_more c t (set t (q * w + c) v) b kc (λ r x hx a. entry_set_column w t q c v r x hx h a)
      (λ r.
      ⊎_elim (λ s. ap (λ i. entry w (set t (q * w + c) v) i c) s ∙ entry_set w t q c v within ∙ e ∙ ap (λ i. new i c) (sym s))
      (λ a. entry_set_row w t q c v r c h h a ∙ between_old c t b r c kc (omega arith) h ∙ sym (others r a))
      (cases_eq r q))

-- one column more, where rows k and p change places
pub between_swap : (w k p : ℕ) (s : List ℕ) (c : ℕ) (t : List ℕ) → Between w k c s (λ r x. entry w s (swapped k p r) x) t → k ≤ c → c < w
    → k * w + c < length t → p * w + c < length t
    → Between w k (c + 1) s (λ r x. entry w s (swapped k p r) x) (set (set t (k * w + c) (entry w t p c)) (p * w + c) (entry w t k c))
between_swap w k p s c t b kc h hk hp =
    between_more w k s (λ r x. entry w s (swapped k p r) x) c t (set u (p * w + c) (entry w t k c)) b kc
    (λ r x hx a. entry_set_column w u p c (entry w t k c) r x hx h a ∙ entry_set_column w t k c (entry w t p c) r x hx h a)
    (λ r. ⊎_elim (second r) (λ a. ⊎_elim (first r a) (neither r a) (cases_eq r k)) (cases_eq r p))
  where
    u : List ℕ
    u = set t (k * w + c) (entry w t p c)

    old : (r : ℕ) → entry w t r c ≡ entry w s r c
    old r = between_old w k s (λ r x. entry w s (swapped k p r) x) c t b r c kc (omega arith) h

    from : (r q : ℕ) → swapped k p r ≡ q → entry w t q c ≡ entry w s (swapped k p r) c
    from r q e = old q ∙ ap (λ i. entry w s i c) (sym e)

    second : (r : ℕ) → r ≡ p → entry w (set u (p * w + c) (entry w t k c)) r c ≡ entry w s (swapped k p r) c
    second r e =
        ap (λ i. entry w (set u (p * w + c) (entry w t k c)) i c) e
        ∙ entry_set w u p c (entry w t k c) (simp length-set hp)
        ∙ ⊎_elim (λ d. from r k (swapped-first k p r d ∙ sym e ∙ d)) (λ d. from r k (swapped_second k p r d e)) (cases_eq r k)

    first : (r : ℕ) → r ≢ p → r ≡ k → entry w (set u (p * w + c) (entry w t k c)) r c ≡ entry w s (swapped k p r) c
    first r a e =
        entry_set_row w u p c (entry w t k c) r c h h a
        ∙ ap (λ i. entry w u i c) e
        ∙ entry_set w t k c (entry w t p c) hk
        ∙ from r p (swapped-first k p r e)

    neither : (r : ℕ) → r ≢ p → r ≢ k → entry w (set u (p * w + c) (entry w t k c)) r c ≡ entry w s (swapped k p r) c
    neither r a d =
        entry_set_row w u p c (entry w t k c) r c h h a
        ∙ entry_set_row w t k c (entry w t p c) r c h h d
        ∙ from r r (swapped_other k p r d a)
