-- The text of fields, one after the other. Assumes nothing.
use Rattle.std.proofs.Common.{◌≡◌, ℕ, ◌+◌, ◌<◌, List, [], ◌∷◌, ◌++◌, length, get_or, take, sym, refl, ap, ◌∙◌, append_assoc, append-nil, arith}
use Rattle.std.proofs.lemmas.List.{take_more, length-take-le}
use Rattle.lines.specs.Digits.{hex, wide, space}
use Rattle.lines.specs.Writing.{fields_text}

pub fields_text-append : (ws vs us xs : List ℕ) → length vs ≡ length ws → fields_text (ws ++ us) (vs ++ xs) ≡ fields_text ws vs ++ fields_text us xs
fields_text-append [] [] us xs e = refl
fields_text-append [] (v ∷ vs) us xs e = absurd (omega arith)
fields_text-append (w ∷ ws) [] us xs e = absurd (omega arith)
fields_text-append (w ∷ ws) (v ∷ vs) us xs e =
    ap (λ l. space ∷ l) (ap (λ l. hex (wide w v) ++ l) (fields_text-append ws vs us xs (omega arith)) ∙ sym (append_assoc (hex (wide w v)) (fields_text ws vs) (fields_text us xs)))

-- one more field
pub fields_text_more : (ws vs : List ℕ) (i : ℕ) → i < length ws → length vs ≡ length ws → fields_text (take (i + 1) ws) (take (i + 1) vs) ≡ fields_text (take i ws) (take i vs) ++ (space ∷ hex (wide (get_or ws i 0) (get_or vs i 0)))
fields_text_more ws vs i h e =
    (λ j. fields_text (take_more ws i 0 h j) (take_more vs i 0 (omega arith) j)) ∙
    fields_text-append (take i ws) (take i vs) (get_or ws i 0 ∷ []) (get_or vs i 0 ∷ []) (omega (arith, length-take-le i ws (omega arith), length-take-le i vs (omega arith))) ∙
    ap (λ l. fields_text (take i ws) (take i vs) ++ (space ∷ l)) (append-nil (hex (wide (get_or ws i 0) (get_or vs i 0))))
