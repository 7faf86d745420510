-- Reading a text that is one card line and nothing else, step by step. Assumes nothing.
use Rattle.std.proofs.Common.{◌≡◌, ℕ, Bool, true, false, cond, ltb, List, length, Ok, Err, ap, ◌∙◌, arith}
use Rattle.lines.specs.Lines.{Content, reading}
use Rattle.lines.specs.Readers.{Stand, opening, left, stepped, ending, longest_text}
use Rattle.lines.specs.declared.fault.Fault.{Fault}
use Rattle.lines.specs.declared.fault.Fault.TheVariants.{Excess}
use Rattle.lines.specs.declared.wanted.Wanted.TheVariants as wanted
use Rattle.slot.specs.Inserts.{closed, read_on, read_from, card_read}

opened-by : (b : Bool) (text : List ℕ) (s : Stand) → Ok s ≡ cond b (Err Excess) (Ok (record { text = text; start = 0; number = 0 })) → left s ≡ text
opened-by true text s e = let z : ◌≡◌ {A = ℕ} 0 1 = cc in absurd (omega arith)
opened-by false text s e = let h : s ≡ record { text = text; start = 0; number = 0 } = cc in ap left h

-- a reader that was opened has the whole text left
pub opened-left : (text : List ℕ) (s : Stand) → Ok s ≡ opening text → left s ≡ text
opened-left text s e = opened-by (ltb longest_text (length text)) text s e

module _ (mark : ℕ) (text : List ℕ) (s : Stand) (opens : Ok s ≡ opening text) where
  pub line_fault : (f : Fault) → Err f ≡ reading (wanted.Card mark) (left s) → Err f ≡ card_read mark text
  line_fault f e = ap (read_on s) e ∙ ap (read_from mark) opens

  pub more_fault : (c : Content) (f : Fault) → Ok c ≡ reading (wanted.Card mark) (left s) → Err f ≡ ending (left (stepped s)) → Err f ≡ card_read mark text
  more_fault c f r e = ap (closed c) e ∙ ap (read_on s) r ∙ ap (read_from mark) opens

  pub one_card : (c : Content) (u : Unit {0}) → Ok c ≡ reading (wanted.Card mark) (left s) → Ok u ≡ ending (left (stepped s)) → Ok c ≡ card_read mark text
  one_card c u r e = ap (closed c) e ∙ ap (read_on s) r ∙ ap (read_from mark) opens
