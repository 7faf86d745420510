-- A block of lines grows by one line. Assumes nothing.
use Rattle.std.proofs.Common.{◌≡◌, ℕ, zero, suc, ◌+◌, ◌*◌, ◌<◌, ◌≤◌, List, [], ◌∷◌, ◌++◌, map, length, take, drop, sym, refl, ap, ◌∙◌, append_assoc, append-nil, suc-mul, add-one, arith, length-append, length-drop}
use mathlib.Core.List.{map-append}
use Rattle.std.specs.Int.Digits.{AllBelowBase}
use Rattle.std.proofs.ByRecursion.{All-append}
use Rattle.std.proofs.lemmas.List.{take_all, take-append-le, drop-append-le, nil_from_length}
use Rattle.lines.specs.Lines.{Content}
use Rattle.lines.specs.Writing.{written}
use Rattle.lines.specs.declared.kind.Kind.{Kind}
use Rattle.programs.specs.Texts.{text_of, data_line, parts, Block}

-- lines behind lines
pub text_of-append : (cs ds : List Content) → text_of (cs ++ ds) ≡ text_of cs ++ text_of ds
text_of-append [] ds = refl
text_of-append (c ∷ cs) ds = ap (λ l. written c ++ l) (text_of-append cs ds) ∙ sym (append_assoc (written c) (text_of cs) (text_of ds))

-- one more part
pub parts_push : (k w : ℕ) (xs ys : List ℕ) → length xs ≡ k * w → length ys ≡ w → parts (suc k) w (xs ++ ys) ≡ parts k w xs ++ (ys ∷ [])
parts_push zero w xs ys e h =
    let none = nil_from_length xs (omega (arith, e)) in
    ap (λ l. take w (l ++ ys) ∷ []) none ∙ ap (λ l. l ∷ []) (take_all w ys (omega arith))
parts_push (suc k) w xs ys e h =
    let more : length xs ≡ k * w + w = e ∙ suc-mul k w in
    let fits : w ≤ length xs = omega arith in
    (λ i. take-append-le w xs ys fits i ∷ parts (suc k) w (drop-append-le w xs ys fits i))
    ∙ ap (λ l. take w xs ∷ l) (parts_push k w (drop w xs) ys (length-drop w xs ∙ omega arith) h)

pub block_none : (kind : Kind) (w : ℕ) (text : List ℕ) → Block kind w 0 text [] text
block_none kind w text = record { bytes = tt; long = omega arith; is = refl }

pub block_more : (kind : Kind) (w k : ℕ) (text xs mid ys rest : List ℕ) → Block kind w k text xs mid → length ys ≡ w → AllBelowBase 256 ys
    → mid ≡ written (data_line kind ys) ++ rest → Block kind w (k + 1) text (xs ++ ys) rest
block_more kind w k text xs mid ys rest b h u e =
    let line = data_line kind in
    let one : text_of (map line (parts (k + 1) w (xs ++ ys))) ≡ text_of (map line (parts k w xs)) ++ written (line ys) =
    ap (λ m. text_of (map line (parts m w (xs ++ ys)))) (add-one k)
    ∙ ap (λ l. text_of (map line l)) (parts_push k w xs ys b.long h)
    ∙ ap text_of (map-append line (parts k w xs) (ys ∷ []))
    ∙ text_of-append (map line (parts k w xs)) (line ys ∷ [])
    ∙ ap (λ l. text_of (map line (parts k w xs)) ++ l) (append-nil (written (line ys)))
    in
    record {
      bytes = All-append (λ d. d < 256) xs ys b.bytes u;
      long = length-append xs ys ∙ omega (arith, b.long, suc-mul k w, ap (λ m. m * w) (add-one k));
      is = b.is
          ∙ ap (λ l. text_of (map line (parts k w xs)) ++ l) e
          ∙ sym (append_assoc (text_of (map line (parts k w xs))) (written (line ys)) rest)
          ∙ ap (λ l. l ++ rest) (sym one);
    }
