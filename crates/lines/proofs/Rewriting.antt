-- A line that is read and written again is the same line. Assumes nothing.
use Rattle.std.proofs.Common.{◌≡◌, ℕ, ◌+◌, ◌-◌, ◌*◌, ◌%◌, ◌<◌, Bool, true, false, cond, ◌&&◌, eqb, ltb, leb, List, [], ◌∷◌, ◌++◌, length, get_or, take, drop, sym, refl, ap, ◌∙◌, append_assoc, arith, length-drop}
use Rattle.std.specs.List.{prefix_len, AllByRecursion}
use Rattle.std.proofs.lemmas.List.{nil_from_length, drop-drop, drop_more, take-append-drop, length-take-le, take_all}
use Rattle.std.proofs.lemmas.List.Sums.{prefix_len-le-length, prefix_len_stops}
use Rattle.std.proofs.lemmas.Bool.{and_parts, or_parts, not-false, eqb-true, leb-true, leb-false, false≢true}
use Rattle.lines.specs.Digits.{is_digit, is_inline, hex, spelled, numeral, wide, space, newline}
use Rattle.lines.specs.Kinds.{kind_number, widths, has_data}
use Rattle.lines.specs.Lines.{head, lineless, of_kind, formed, kind_of, content_of, data_place}
use Rattle.lines.specs.RoundTrips.{Rewrites, rest}
use Rattle.lines.specs.Shapes.{spaced, shaped, reach, values}
use Rattle.lines.specs.Writing.{fields_text, data_text, written}
use Rattle.lines.specs.declared.kind.Kind.{Kind}
use Rattle.lines.proofs.Fields.{spaced_room}
use Rattle.lines.proofs.Readings.{read_ok}
use Rattle.lines.proofs.Leads.{all_leading}
use Rattle.lines.proofs.Numerals.{hex-spelled, wide-numeral, under_spelled}
use Rattle.lines.proofs.Spelling.{length-spelled, numeral_single}

-- a space and k digits, taken apart
spaced-parts : (k : ℕ) (t : List ℕ) → spaced k t ≡ true → (t ≡ space ∷ drop 1 t) × AllByRecursion (λ d. is_digit d ≡ true) (take k (drop 1 t))
spaced-parts k [] e = absurd (false≢true e)
spaced-parts k (x ∷ t) e =
    let q = and_parts (eqb x space) (leb k (prefix_len is_digit t)) e in
    (ap (λ y. y ∷ t) (eqb-true x space q.0), all_leading is_digit k t (leb-true k (prefix_len is_digit t) q.1))

-- a field is written as it stood
field_text : (w : ℕ) (t : List ℕ) → spaced (2 * w) t ≡ true → hex (wide w (numeral (spelled (take (2 * w) (drop 1 t))))) ≡ take (2 * w) (drop 1 t)
field_text w t e =
    let ds = take (2 * w) (drop 1 t) in
    let n : length ds ≡ 2 * w = length-take-le (2 * w) (drop 1 t) (omega (arith, spaced_room (2 * w) t e, length-drop 1 t)) in
    ap hex (wide-numeral w (spelled ds) (under_spelled ds) (omega (arith, length-spelled ds))) ∙
    hex-spelled ds (spaced-parts (2 * w) t e).1 (omega arith)

-- the text after the kind is written as it stood
shaped_text : (ws : List ℕ) (d : Bool) (t : List ℕ) → shaped ws d t ≡ true → fields_text ws (values ws t) ++ cond d (space ∷ hex (spelled (drop (reach ws + 1) t))) [] ≡ t
shaped_text [] false t e = sym (nil_from_length t (eqb-true (length t) 0 e))
shaped_text [] true t e =
    let q = and_parts (spaced (length t - 1) t) (ltb 1 (length t) && eqb (length t % 2) 1) e in
    let odd = eqb-true (length t % 2) 1 (and_parts (ltb 1 (length t)) (eqb (length t % 2) 1) q.1).1 in
    let p = spaced-parts (length t - 1) t q.0 in
    let all : take (length t - 1) (drop 1 t) ≡ drop 1 t = take_all (length t - 1) (drop 1 t) (omega (arith, length-drop 1 t)) in
    let digits : AllByRecursion (λ d. is_digit d ≡ true) (drop 1 t) = rw all at p.1 in
    ap (λ l. space ∷ l) (hex-spelled (drop 1 t) digits (omega (arith, length-drop 1 t))) ∙ sym p.0
shaped_text (w ∷ ws) d t e =
    let q = and_parts (spaced (2 * w) t) (shaped ws d (drop (1 + 2 * w) t)) e in
    let ds = take (2 * w) (drop 1 t) in
    let h = hex (wide w (numeral (spelled ds))) in
    let f = fields_text ws (values ws (drop (1 + 2 * w) t)) in
    let place : 1 + 2 * w + reach ws + 1 ≡ 1 + 2 * w + (reach ws + 1) = omega arith in
    let on : drop (1 + 2 * w + reach ws + 1) t ≡ drop (reach ws + 1) (drop (1 + 2 * w) t) = ap (λ n. drop n t) place ∙ sym (drop-drop (reach ws + 1) (1 + 2 * w) t) in
    let back : f ++ cond d (space ∷ hex (spelled (drop (1 + 2 * w + reach ws + 1) t))) [] ≡ drop (1 + 2 * w) t =
    ap (λ l. f ++ cond d (space ∷ hex (spelled l)) []) on ∙ shaped_text ws d (drop (1 + 2 * w) t) q.1 in
    ap (λ l. space ∷ l)
    (append_assoc h f (cond d (space ∷ hex (spelled (drop (1 + 2 * w + reach ws + 1) t))) []) ∙
    (λ i. field_text w t q.0 i ++ back i) ∙
    ap (λ l. ds ++ l) (sym (drop-drop (2 * w) 1 t)) ∙ take-append-drop (2 * w) (drop 1 t)) ∙
    sym (spaced-parts (2 * w) t q.0).0

-- the kind is written as it stood
kind_text : (k : Kind) (l : List ℕ) → of_kind k l ≡ true → hex (kind_number k ∷ []) ≡ take 2 l
kind_text k l e =
    let q = and_parts (eqb (prefix_len is_digit l) 2) (eqb (numeral (spelled (take 2 l))) (kind_number k)) e in
    let two = eqb-true (prefix_len is_digit l) 2 q.0 in
    let digits = all_leading is_digit 2 l (omega arith) in
    let n : length (take 2 l) ≡ 2 = length-take-le 2 l (omega (arith, prefix_len-le-length is_digit l)) in
    let one = numeral_single (spelled (take 2 l)) (omega (arith, length-spelled (take 2 l))) in
    let is = eqb-true (numeral (spelled (take 2 l))) (kind_number k) q.1 in
    ap (λ m. hex (m ∷ [])) (sym is) ∙ ap hex (sym one) ∙ hex-spelled (take 2 l) digits (omega arith)

-- data of a kind that has none is not written
data_once : (d : Bool) (xs : List ℕ) → cond d (space ∷ hex (cond d (spelled xs) [])) [] ≡ cond d (space ∷ hex (spelled xs)) []
data_once true xs = refl
data_once false xs = refl

-- a line without a fault in its text is written as it stood
written-content_of : (k : Kind) (l : List ℕ) → of_kind k l ≡ true → formed k l ≡ true → written (content_of k l) ≡ l ++ (newline ∷ [])
written-content_of k l e f =
    let ws = widths k in
    let close = newline ∷ [] in
    let place : 3 + reach ws ≡ 2 + (reach ws + 1) = omega arith in
    let on : drop (data_place k) l ≡ drop (reach ws + 1) (drop 2 l) = ap (λ n. drop n l) place ∙ sym (drop-drop (reach ws + 1) 2 l) in
    let rest : data_text k (content_of k l).numbers ≡ cond (has_data k) (space ∷ hex (spelled (drop (reach ws + 1) (drop 2 l)))) [] =
    data_once (has_data k) (drop (data_place k) l) ∙ ap (λ x. cond (has_data k) (space ∷ hex (spelled x)) []) on in
    let body : fields_text ws (values ws (drop 2 l)) ++ data_text k (content_of k l).numbers ≡ drop 2 l =
    ap (λ x. fields_text ws (values ws (drop 2 l)) ++ x) rest ∙ shaped_text ws (has_data k) (drop 2 l) f in
    (λ i. kind_text k l e i ++ sym (append_assoc (fields_text ws (values ws (drop 2 l))) (data_text k (content_of k l).numbers) close) i) ∙
    ap (λ x. take 2 l ++ (x ++ close)) body ∙ sym (append_assoc (take 2 l) (drop 2 l) close) ∙
    ap (λ x. x ++ close) (take-append-drop 2 l)

-- a line, the byte that closes it, and what follows
text_parts : (text : List ℕ) → lineless text ≡ false → head text ++ (newline ∷ rest text) ≡ text
text_parts text e =
    let n = prefix_len is_inline text in
    let q = or_parts (eqb n 0) (leb (length text) n) e in
    let h : n < length text = leb-false (length text) n q.1 in
    let long : length (head text) ≡ n = length-take-le n text (omega arith) in
    let stop = eqb-true (get_or text n 0) newline (not-false (eqb (get_or text n 0) newline) (prefix_len_stops is_inline text 0 h)) in
    (λ i. take n text ++ (sym stop i ∷ drop (long i + 1) text)) ∙
    ap (λ l. take n text ++ l) (sym (drop_more text n 0 h)) ∙ take-append-drop n text

pub rewrites : Rewrites
rewrites w text c e =
    let k = kind_of w in
    let l = head text in
    let o = read_ok w text c e in
    let line = ap written (sym o.is) ∙ written-content_of k l o.of_kind o.formed in
    (line, ap (λ x. x ++ rest text) line ∙ append_assoc l (newline ∷ []) (rest text) ∙ text_parts text o.there)
