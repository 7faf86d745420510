-- The text of one line, cut off from the text behind it, reads as it did there. Assumes nothing.
use Rattle.std.proofs.Common.{◌≡◌, ℕ, zero, suc, ◌+◌, ◌<◌, ◌≤◌, Bool, true, false, cond, ◌||◌, eqb, leb, List, [], ◌∷◌, length, take, drop, sym, refl, ap, ◌∙◌, ⊎_elim, arith, length-take}
use Rattle.std.specs.List.{prefix_len}
use Rattle.std.proofs.lemmas.List.{drop_all, drop-drop, take_all, take-take, length-take-le}
use Rattle.std.proofs.lemmas.List.Sums.{prefix_len-le-length}
use Rattle.std.proofs.lemmas.Bool.{cases_lt, lt-leb}
use Rattle.lines.specs.Digits.{is_inline}
use Rattle.lines.specs.Lines.{head, kind_of, content_of, lineless, line_faults, reading, unless}
use Rattle.lines.specs.Faults.{first}
use Rattle.lines.specs.Readers.{Stand, left, line_text, skipped}
use Rattle.lines.specs.RoundTrips.{rest}
use Rattle.lines.specs.declared.fault.Fault.TheVariants.{Absent}
use Rattle.lines.specs.declared.wanted.Wanted.{Wanted}
use Rattle.lines.proofs.Cuts.{drop_cut}

-- a front that goes past what passes has as much that passes
pub leading_take : (p : ℕ → Bool) (k : ℕ) (xs : List ℕ) → prefix_len p xs < k → prefix_len p (take k xs) ≡ prefix_len p xs
leading_take p zero xs h = absurd (omega arith)
leading_take p (suc k) [] h = refl
leading_take p (suc k) (x ∷ xs) h = go (p x) refl (leading_take p k xs)
  where
    go : (b : Bool) → p x ≡ b → (prefix_len p xs < k → prefix_len p (take k xs) ≡ prefix_len p xs) → prefix_len p (take (suc k) (x ∷ xs)) ≡ prefix_len p (x ∷ xs)
    go true e ih =
        let yes = λ (n : ℕ). ap (λ b. cond b (1 + n) 0) e in
        yes (prefix_len p (take k xs)) ∙ ap (λ n. 1 + n) (ih (omega (arith, yes (prefix_len p xs)))) ∙ sym (yes (prefix_len p xs))
    go false e ih = ap (λ b. cond b (1 + prefix_len p (take k xs)) 0) e ∙ sym (ap (λ b. cond b (1 + prefix_len p xs) 0) e)

module _ (text : List ℕ) where
  pub head_length : length (head text) ≡ prefix_len is_inline text
  head_length = length-take-le (prefix_len is_inline text) text (prefix_len-le-length is_inline text)

  pub leading_line : prefix_len is_inline (line_text text) ≡ prefix_len is_inline text
  leading_line = leading_take is_inline (length (head text) + 1) text (omega (arith, head_length))

  pub head_line : head (line_text text) ≡ head text
  head_line =
      ap (λ k. take k (line_text text)) leading_line
      ∙ take-take (prefix_len is_inline text) (length (head text) + 1) text (omega (arith, head_length))

  -- where nothing closes it, it is all of the text
  pub line_whole : (k : ℕ) → prefix_len is_inline text ≡ k → length text ≤ k → text ≡ line_text text
  line_whole k e h = sym (take_all (length (head text) + 1) text (omega (arith, head_length, e)))

  -- the line is absent, or its numbers are the same
  lineless-line : lineless (line_text text) ≡ lineless text
  lineless-line = (λ i. eqb (leading_line i) 0 || leb (length (line_text text)) (leading_line i)) ∙ ap (λ b. eqb (prefix_len is_inline text) 0 || b) both
    where
      both : leb (length (line_text text)) (prefix_len is_inline text) ≡ leb (length text) (prefix_len is_inline text)
      both =
          ⊎_elim
          (λ (h : prefix_len is_inline text < length text).
          lt-leb (length (line_text text)) (prefix_len is_inline text) (omega (arith, head_length, length-take-le (length (head text) + 1) text (omega (arith, head_length, h))))
          ∙ sym (lt-leb (length text) (prefix_len is_inline text) h))
          (λ (h : length text ≤ prefix_len is_inline text).
          ap (λ l. leb (length l) (prefix_len is_inline text)) (sym (line_whole (prefix_len is_inline text) refl h)))
          (cases_lt (prefix_len is_inline text) (length text))

  pub reading_line : (w : Wanted) → reading w (line_text text) ≡ reading w text
  reading_line w i = unless (first ((lineless-line i, Absent) ∷ line_faults w (head_line i))) (content_of (kind_of w) (head_line i))

  -- nothing follows the line
  pub line_alone : rest (line_text text) ≡ []
  line_alone =
      drop_all (length (head (line_text text)) + 1) (line_text text) (omega (arith, ap length head_line, length-take (length (head text) + 1) text))

-- past the text of a line, what is left is what follows the line
pub skipped-left : (s : Stand) → left (skipped s) ≡ rest (left s)
skipped-left s =
    let t = left s in
    let k = length (head t) + 1 in
    sym (drop-drop (length (line_text t)) s.start s.text) ∙ ap (λ n. drop n t) (length-take k t) ∙ drop_cut k t
