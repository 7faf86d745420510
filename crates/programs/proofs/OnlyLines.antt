-- A text begins with one line of what is wanted at most, and with one block of such lines. Assumes nothing.
--   Reads    a line stands at the head of a text, is read as it is wanted, and leaves the rest
use Rattle.std.proofs.Common.{◌≡◌, ℕ, zero, suc, ◌+◌, ◌*◌, ◌<◌, true, List, ◌++◌, map, length, take, drop, Ok, Err, Result, sym, refl, ap, ◌∙◌, subst, ⊎_elim, append_assoc, suc-mul, arith, length-drop}
use Rattle.std.specs.Int.Digits.{AllBelowBase}
use Rattle.std.proofs.ByRecursion.{All-take, All-drop}
use Rattle.std.proofs.lemmas.List.{length-take-le, nil_from_length, take-append-drop}
use Rattle.std.proofs.lemmas.Bool.{cases_eq, cases_lt, eq-eqb, lt-ltb}
use Rattle.lines.specs.Lines.{Content, counted, kind_of, reading, within}
use Rattle.lines.specs.RoundTrips.{Fitting, rest}
use Rattle.lines.specs.Writing.{written}
use Rattle.lines.specs.declared.fault.Fault.{Fault}
use Rattle.lines.specs.declared.wanted.Wanted.{Wanted}
use Rattle.lines.specs.declared.wanted.Wanted.TheVariants as wanted
use Rattle.lines.proofs.Contents.{judged_ok}
use Rattle.lines.proofs.Rereading.{rereads}
use Rattle.programs.specs.Texts.{Block, Broken, Plain, data_line, parts, text_of, width}

pub record Reads (w : Wanted) (text : List ℕ) (c : Content) (more : List ℕ) : Type 0 where
  pub line : reading w text ≡ Ok c
  pub left : rest text ≡ more

-- what was written is read
pub reads_written : (w : Wanted) (text : List ℕ) (c : Content) (more : List ℕ) → text ≡ written c ++ more → kind_of w ≡ c.kind → Fitting c
    → within w c ≡ true → counted w c ≡ true → Reads w text c more
reads_written w text c more e k f limits count =
    let again = rereads c w more k f in
    record { line = ap (reading w) e ∙ again.0 ∙ judged_ok w c c refl limits count; left = ap rest e ∙ again.1 }

-- one line is read, and one rest is left
pub reads_only : {w : Wanted} {text : List ℕ} {c d : Content} {more less : List ℕ} → Reads w text c more → Reads w text d less → (c ≡ d) × (more ≡ less)
reads_only {c = c} {d = d} r s = let e : ◌≡◌ {A = Result Content Fault} (Ok c) (Ok d) = sym r.line ∙ s.line in (cc, sym r.left ∙ s.left)

-- and no fault is found
pub reads_fault : {w : Wanted} {text : List ℕ} {c : Content} {more : List ℕ} {f : Fault} → Reads w text c more → reading w text ≡ Err f → ⊥
reads_fault {c = c} {f = f} r s =
    let e : ◌≡◌ {A = Result Content Fault} (Ok c) (Err f) = sym r.line ∙ s in let z : ◌≡◌ {A = ℕ} 0 1 = cc in omega arith

-- a row or a dummy key that was written is read
plain_reads : (w : Wanted) → Plain w → 0 < width w → (text ys more : List ℕ) → length ys ≡ width w → AllBelowBase 256 ys
    → text ≡ written (data_line (kind_of w) ys) ++ more → Reads w text (data_line (kind_of w) ys) more
plain_reads (wanted.Plan m) p s text ys more h u e = elim p [ ]
plain_reads (wanted.Card m) p s text ys more h u e = elim p [ ]
plain_reads wanted.Key p s text ys more h u e = elim p [ ]
plain_reads (wanted.Row t) p s text ys more h u e =
    reads_written (wanted.Row t) text (data_line (kind_of (wanted.Row t)) ys) more e refl
    (record { fields = tt; numbers = u; some = sym (lt-ltb 0 (length ys) (omega arith)) }) refl (eq-eqb (length ys) t h)
plain_reads (wanted.Dummy t l) p s text ys more h u e =
    reads_written (wanted.Dummy t l) text (data_line (kind_of (wanted.Dummy t l)) ys) more e refl
    (record { fields = tt; numbers = u; some = sym (lt-ltb 0 (length ys) (omega arith)) }) refl (eq-eqb (length ys) (width (wanted.Dummy t l)) h)

module _ (w : Wanted) (plain : Plain w) (some : 0 < width w) where
  abbrev Lines : ℕ → (text xs rest : List ℕ) → Type 0
  Lines k text xs rest = Block (kind_of w) (width w) k text xs rest

  -- what follows the first line of a block
  abbrev after : ℕ → (xs rest : List ℕ) → List ℕ
  after k xs rest = text_of (map (data_line (kind_of w)) (parts k (width w) (drop (width w) xs))) ++ rest

  first-line : (k : ℕ) (text xs rest : List ℕ) → Lines (suc k) text xs rest
      → Reads w text (data_line (kind_of w) (take (width w) xs)) (after k xs rest) × Lines k (after k xs rest) (drop (width w) xs) rest
  first-line k text xs rest b =
      let long : length xs ≡ k * width w + width w = b.long ∙ suc-mul k (width w) in (
        plain_reads w plain some text (take (width w) xs) (after k xs rest) (length-take-le (width w) xs (omega arith)) (All-take (λ d. d < 256) (width w) xs b.bytes)
            (b.is ∙ append_assoc (written (data_line (kind_of w) (take (width w) xs))) _ rest),
        record { bytes = All-drop (λ d. d < 256) (width w) xs b.bytes; long = length-drop (width w) xs ∙ omega arith; is = refl },
      )

  -- a text begins with one block of so many lines
  pub block_only : (k : ℕ) (text xs rest ys less : List ℕ) → Lines k text xs rest → Lines k text ys less → (xs ≡ ys) × (rest ≡ less)
  block_only zero text xs rest ys less b d =
      (nil_from_length xs (omega (arith, b.long)) ∙ sym (nil_from_length ys (omega (arith, d.long))), sym b.is ∙ d.is)
  block_only (suc k) text xs rest ys less b d =
      let p = first-line k text xs rest b in
      let q = first-line k text ys less d in
      let same = reads_only p.0 q.0 in
      let more = block_only k (after k ys less) (drop (width w) xs) rest (drop (width w) ys) less (subst (λ m. Lines k m (drop (width w) xs) rest) same.1 p.1) q.1 in (
        sym (take-append-drop (width w) xs) ∙ (λ i. ap (λ c. c.numbers) same.0 i ++ more.0 i) ∙ take-append-drop (width w) ys,
        more.1,
      )

  -- after the first lines of a block the next one is read
  pub block_next : (k n : ℕ) (text xs mid ys rest : List ℕ) (f : Fault) → k < n → Lines k text xs mid → Lines n text ys rest → reading w mid ≡ Err f → ⊥
  block_next k zero text xs mid ys rest f h b d e = omega arith
  block_next zero (suc n) text xs mid ys rest f h b d e = reads_fault (first-line n text ys rest d).0 (ap (reading w) b.is ∙ e)
  block_next (suc k) (suc n) text xs mid ys rest f h b d e =
      let p = first-line k text xs mid b in
      let q = first-line n text ys rest d in
      block_next k n (after n ys rest) (drop (width w) xs) mid (drop (width w) ys) rest f (omega arith)
      (subst (λ m. Lines k m (drop (width w) xs) mid) (reads_only p.0 q.0).1 p.1) q.1 e

  -- a whole block is not broken
  pub block_whole : (n k : ℕ) (text xs rest : List ℕ) (f : Fault) → Lines n text xs rest → Broken w n k text f → ⊥
  block_whole n k text xs rest f b d = block_next k n text d.xs d.rest xs rest f d.below d.block b d.breaks

  -- a block is broken at one line, by one fault
  pub broken_only : (n k m : ℕ) (text : List ℕ) (f g : Fault) → Broken w n k text f → Broken w n m text g → (k ≡ m) × (f ≡ g)
  broken_only n k m text f g b d = ⊎_elim same apart (cases_eq k m)
    where
      same : k ≡ m → (k ≡ m) × (f ≡ g)
      same e =
          let rests = (block_only m text b.xs b.rest d.xs d.rest (subst (λ l. Lines l text b.xs b.rest) e b.block) d.block).1 in
          let faults : ◌≡◌ {A = Result Content Fault} (Err f) (Err g) = sym b.breaks ∙ ap (reading w) rests ∙ d.breaks in
          (e, cc)

      apart : (k ≡ m → ⊥) → (k ≡ m) × (f ≡ g)
      apart e =
          ⊎_elim (λ l. absurd (block_next k m text b.xs b.rest d.xs d.rest f l b.block d.block b.breaks))
          (λ l. absurd (block_next m k text d.xs d.rest b.xs b.rest g (omega arith) d.block b.block d.breaks))
          (cases_lt k m)
