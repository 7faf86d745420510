-- The numbers of a line by their places, and what follows once they are tested. Assumes nothing.
use Rattle.std.proofs.Common.{◌≡◌, ℕ, ◌+◌, ◌*◌, Bool, true, false, not, List, [], ◌∷◌, take, drop, Some, None, Ok, Err, Result, refl, ap, ◌∙◌}
use Rattle.std.proofs.lemmas.List.{drop-drop}
use Rattle.lines.specs.Digits.{spelled, numeral}
use Rattle.lines.specs.Faults.{first}
use Rattle.lines.specs.Kinds.{widths}
use Rattle.lines.specs.Lines.{Content, content_of, kind_of, within, counted, judged, unless, text_faults, number_faults, line_faults, head, lineless, reading}
use Rattle.lines.specs.Shapes.{values}
use Rattle.lines.specs.declared.fault.Fault.{Fault}
use Rattle.lines.specs.declared.fault.Fault.TheVariants.{Absent, Limits, Length}
use Rattle.lines.specs.declared.kind.Kind.{Kind}
use Rattle.lines.specs.declared.wanted.Wanted.{Wanted}
use Rattle.lines.proofs.Firsts.{either, first-append, first_next}

-- the number in k digits from a place on
abbrev pub field_at : ℕ → ℕ → List ℕ → ℕ
field_at k p l = numeral (spelled (take k (drop p l)))

-- the numbers in the fields of these widths, from a place on
abbrev pub values_at : ℕ → List ℕ → List ℕ → List ℕ
values_at p [] l = []
values_at p (w ∷ ws) l = field_at (2 * w) (p + 1) l ∷ values_at (p + (1 + 2 * w)) ws l

pub values-drop : (ws : List ℕ) (p : ℕ) (l : List ℕ) → values ws (drop p l) ≡ values_at p ws l
values-drop [] p l = refl
values-drop (w ∷ ws) p l =
    ap (λ d. numeral (spelled (take (2 * w) d)) ∷ values ws (drop (1 + 2 * w) (drop p l))) (drop-drop 1 p l) ∙
    ap (λ vs. field_at (2 * w) (p + 1) l ∷ vs) (ap (values ws) (drop-drop (1 + 2 * w) p l) ∙ values-drop ws (p + (1 + 2 * w)) l)

-- the same content by other fields
pub content-by : (k : Kind) (l fs : List ℕ) → values_at 2 (widths k) l ≡ fs → content_of k l ≡ record { kind = k; fields = fs; numbers = (content_of k l).numbers }
content-by k l fs e = ap (λ vs. record { kind = k; fields = vs; numbers = (content_of k l).numbers }) (values-drop (widths k) 2 l ∙ e)

-- the three ways that the tests of its numbers can go
abbrev chosen : Bool → Bool → Content → Result Content Fault
chosen p q c = unless (first ((not p, Limits) ∷ (not q, Length) ∷ [])) c

module _ (w : Wanted) (a c : Content) (e : a ≡ c) where
  pub judged_ok : within w c ≡ true → counted w c ≡ true → judged w a ≡ Ok c
  judged_ok p q = ap (judged w) e ∙ (λ i. chosen (p i) (q i) c)

  pub judged_limits : within w c ≡ false → judged w a ≡ Err Limits
  judged_limits p = ap (judged w) e ∙ ap (λ b. chosen b (counted w c) c) p

  pub judged_length : within w c ≡ true → counted w c ≡ false → judged w a ≡ Err Length
  judged_length p q = ap (judged w) e ∙ (λ i. chosen (p i) (q i) c)

-- a fault of the text comes first; without one the numbers decide
module _ (w : Wanted) (l : List ℕ) where
  pub faulty_text : (f : Fault) → first (text_faults (kind_of w) l) ≡ Some f → unless (first (line_faults w l)) (content_of (kind_of w) l) ≡ Err f
  faulty_text f e =
      ap (λ o. unless o (content_of (kind_of w) l)) (first-append (text_faults (kind_of w) l) (number_faults w (content_of (kind_of w) l))) ∙
      ap (λ o. unless (either o (first (number_faults w (content_of (kind_of w) l)))) (content_of (kind_of w) l)) e

  pub sound_text : first (text_faults (kind_of w) l) ≡ None → unless (first (line_faults w l)) (content_of (kind_of w) l) ≡ judged w (content_of (kind_of w) l)
  sound_text e =
      ap (λ o. unless o (content_of (kind_of w) l)) (first-append (text_faults (kind_of w) l) (number_faults w (content_of (kind_of w) l))) ∙
      ap (λ o. unless (either o (first (number_faults w (content_of (kind_of w) l)))) (content_of (kind_of w) l)) e

-- where a line is there, its own faults decide
pub reading-head : (w : Wanted) (text : List ℕ) → lineless text ≡ false → reading w text ≡ unless (first (line_faults w (head text))) (content_of (kind_of w) (head text))
reading-head w text e = ap (λ o. unless o (content_of (kind_of w) (head text))) (first_next (lineless text) Absent (line_faults w (head text)) e)
