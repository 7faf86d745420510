-- Numbers that are written and read again are the same numbers. Assumes nothing.
use Rattle.std.proofs.Common.{◌≡◌, ℕ, suc, ◌+◌, ◌-◌, ◌*◌, ◌/◌, ◌%◌, ◌^◌, ◌<◌, ◌≤◌, Bool, true, false, cond, not, ◌&&◌, ◌||◌, eqb, ltb, leb, List, [], ◌∷◌, ◌++◌, length, take, drop, None, sym, refl, ap, ◌∙◌, append_assoc, arith, length-append}
use Rattle.std.specs.Int.Digits.{AllBelowBase}
use Rattle.std.specs.List.{prefix_len, AllByRecursion}
use Rattle.std.proofs.ByRecursion.{All-append, All-weaker}
use Rattle.std.proofs.lemmas.List.{drop_at, take_at, drop-drop, nil_from_length}
use Rattle.std.proofs.lemmas.Bool.{and_from, or_left, or_from, not_from_true, eq-eqb, ne_eqb, le-leb, lt-leb, le-ltb, lt-ltb, ltb-true, ltb-false}
use Rattle.std.proofs.lemmas.Bool.Decides.{nat_tests}
use Rattle.lines.specs.Digits.{is_digit, is_inline, is_sound, hex, spelled, numeral, wide, space, newline}
use Rattle.lines.specs.Faults.{first}
use Rattle.lines.specs.Kinds.{kind_number, widths, has_data}
use Rattle.lines.specs.Lines.{Content, head, lineless, sound_to, of_kind, formed, kind_of, content_of, data_place, text_faults, line_faults, unless, reading, judged}
use Rattle.lines.specs.RoundTrips.{Fits, Fitting, Rereads, rest}
use Rattle.lines.specs.Shapes.{spaced, shaped, reach, values}
use Rattle.lines.specs.Writing.{fields_text, data_text, written}
use Rattle.lines.specs.declared.fault.Fault.TheVariants.{Byte, Unwanted, Shape}
use Rattle.lines.specs.declared.kind.Kind.{Kind}
use Rattle.lines.specs.declared.kind.Kind.TheVariants.{Plan, Row, Card, Key, Dummy, Refusal}
use Rattle.lines.specs.declared.wanted.Wanted.{Wanted}
use Rattle.lines.proofs.Contents.{reading-head, sound_text}
use Rattle.lines.proofs.Firsts.{first_next}
use Rattle.lines.proofs.Leads.{leading_append, leading_all}
use Rattle.lines.proofs.Numerals.{is_digit-digit_of, spelled-hex, numeral-wide, under_wide, length-wide}

-- what is written are digits, two a byte
digits_hex : (bs : List ℕ) → AllBelowBase 256 bs → AllByRecursion (λ d. is_digit d ≡ true) (hex bs)
digits_hex [] u = tt
digits_hex (b ∷ bs) u = (is_digit-digit_of (b / 16) (omega (arith, u.0)), (is_digit-digit_of (b % 16) (omega arith), digits_hex bs u.1))

length-hex : (bs : List ℕ) → length (hex bs) ≡ 2 * length bs
length-hex [] = refl
length-hex (b ∷ bs) = omega (arith, length-hex bs)

length_field : (w n : ℕ) → length (hex (wide w n)) ≡ 2 * w
length_field w n = length-hex (wide w n) ∙ ap (λ k. 2 * k) (length-wide w n)

-- a field before other text
module _ (w v : ℕ) (t : List ℕ) where
  spaced_field : spaced (2 * w) (space ∷ (hex (wide w v) ++ t)) ≡ true
  spaced_field =
      le-leb (2 * w) (prefix_len is_digit (hex (wide w v) ++ t))
      (omega (arith, leading_append is_digit (hex (wide w v)) t (digits_hex (wide w v) (under_wide w v)), length_field w v))

  drop_field : drop (1 + 2 * w) (space ∷ (hex (wide w v) ++ t)) ≡ t
  drop_field = sym (drop-drop (2 * w) 1 (space ∷ (hex (wide w v) ++ t))) ∙ drop_at (hex (wide w v)) t (2 * w) (length_field w v)

  value_field : v < 256 ^ w → numeral (spelled (take (2 * w) (hex (wide w v) ++ t))) ≡ v
  value_field h = ap (λ l. numeral (spelled l)) (take_at (hex (wide w v)) t (2 * w) (length_field w v)) ∙ ap numeral (spelled-hex (wide w v) (under_wide w v)) ∙ numeral-wide w v h

-- the same, with text behind the fields joined on
field_join : (w v : ℕ) (f t : List ℕ) → (space ∷ (hex (wide w v) ++ f)) ++ t ≡ space ∷ (hex (wide w v) ++ (f ++ t))
field_join w v f t = ap (λ l. space ∷ l) (append_assoc (hex (wide w v)) f t)

-- fields that are missing are not written
fields_most : (ws vs : List ℕ) → length (fields_text ws vs) ≤ reach ws
fields_most [] vs = omega arith
fields_most (w ∷ ws) [] = omega arith
fields_most (w ∷ ws) (v ∷ vs) = omega (arith, length-append (hex (wide w v)) (fields_text ws vs), length_field w v, fields_most ws vs)

length_fields : (ws vs : List ℕ) → Fits ws vs → length (fields_text ws vs) ≡ reach ws
length_fields [] [] u = refl
length_fields [] (v ∷ vs) u = elim u [ ]
length_fields (w ∷ ws) [] u = elim u [ ]
length_fields (w ∷ ws) (v ∷ vs) u = omega (arith, length-append (hex (wide w v)) (fields_text ws vs), length_field w v, length_fields ws vs u.1)

pub values_text : (ws vs t : List ℕ) → Fits ws vs → values ws (fields_text ws vs ++ t) ≡ vs
values_text [] [] t u = refl
values_text [] (v ∷ vs) t u = elim u [ ]
values_text (w ∷ ws) [] t u = elim u [ ]
values_text (w ∷ ws) (v ∷ vs) t u =
    let f = fields_text ws vs ++ t in
    ap (values (w ∷ ws)) (field_join w v (fields_text ws vs) t) ∙
    (λ i. value_field w v f u.0 i ∷ (ap (values ws) (drop_field w v f) ∙ values_text ws vs t u.1) i)

pub shaped_fields : (ws vs t : List ℕ) (d : Bool) → Fits ws vs → shaped [] d t ≡ true → shaped ws d (fields_text ws vs ++ t) ≡ true
shaped_fields [] [] t d u e = e
shaped_fields [] (v ∷ vs) t d u e = elim u [ ]
shaped_fields (w ∷ ws) [] t d u e = elim u [ ]
shaped_fields (w ∷ ws) (v ∷ vs) t d u e =
    let f = fields_text ws vs ++ t in
    ap (shaped (w ∷ ws) d) (field_join w v (fields_text ws vs) t) ∙
    and_from (spaced (2 * w) (space ∷ (hex (wide w v) ++ f))) (shaped ws d (drop (1 + 2 * w) (space ∷ (hex (wide w v) ++ f))))
    (spaced_field w v f) (ap (shaped ws d) (drop_field w v f) ∙ shaped_fields ws vs t d u.1 e)

-- data is there exactly if the kind has some
pub shaped_data : (d : Bool) (ns : List ℕ) → AllBelowBase 256 ns → d ≡ ltb 0 (length ns) → shaped [] d (cond d (space ∷ hex ns) []) ≡ true
shaped_data false ns u e = refl
shaped_data true ns u e =
    let n = length-hex ns in
    let some = ltb-true 0 (length ns) (sym e) in
    let all = leading_all is_digit (hex ns) (digits_hex ns u) in
    and_from (leb (suc (length (hex ns)) - 1) (prefix_len is_digit (hex ns))) _
    (le-leb _ _ (omega arith))
    (and_from (ltb 1 (suc (length (hex ns)))) _ (lt-ltb 1 (suc (length (hex ns))) (omega arith)) (eq-eqb _ _ (omega arith)))

-- the data comes back
numbers_text : (k : Kind) (vs ns : List ℕ) → Fits (widths k) vs → AllBelowBase 256 ns → has_data k ≡ ltb 0 (length ns) → cond (has_data k) (spelled (drop (reach (widths k) + 1) (fields_text (widths k) vs ++ data_text k ns))) [] ≡ ns
numbers_text k vs ns f u e = go (has_data k) e
  where
    go : (d : Bool) → d ≡ ltb 0 (length ns) → cond d (spelled (drop (reach (widths k) + 1) (fields_text (widths k) vs ++ cond d (space ∷ hex ns) []))) [] ≡ ns
    go false e' = sym (nil_from_length ns (omega (arith, ltb-false 0 (length ns) (sym e'))))
    go true e' =
        ap spelled
        (sym (drop-drop 1 (reach (widths k)) (fields_text (widths k) vs ++ (space ∷ hex ns))) ∙
        ap (drop 1) (drop_at (fields_text (widths k) vs) (space ∷ hex ns) (reach (widths k)) (length_fields (widths k) vs f))) ∙
        spelled-hex ns u

-- the first field is the kind, since no digit follows it
no_digit : (ws vs : List ℕ) (d : Bool) (ns : List ℕ) → prefix_len is_digit (fields_text ws vs ++ cond d (space ∷ hex ns) []) ≡ 0
no_digit [] vs false ns = refl
no_digit [] vs true ns = refl
no_digit (w ∷ ws) [] false ns = refl
no_digit (w ∷ ws) [] true ns = refl
no_digit (w ∷ ws) (v ∷ vs) d ns = refl

kind_first : (k : Kind) (t : List ℕ) → prefix_len is_digit t ≡ 0 → of_kind k (hex (kind_number k ∷ []) ++ t) ≡ true
kind_first Plan t e = ap (λ n. eqb (1 + (1 + n)) 2 && true) e
kind_first Row t e = ap (λ n. eqb (1 + (1 + n)) 2 && true) e
kind_first Card t e = ap (λ n. eqb (1 + (1 + n)) 2 && true) e
kind_first Key t e = ap (λ n. eqb (1 + (1 + n)) 2 && true) e
kind_first Dummy t e = ap (λ n. eqb (1 + (1 + n)) 2 && true) e
kind_first Refusal t e = ap (λ n. eqb (1 + (1 + n)) 2 && true) e

under_kind : (k : Kind) → kind_number k < 256
under_kind Plan = omega arith
under_kind Row = omega arith
under_kind Card = omega arith
under_kind Key = omega arith
under_kind Dummy = omega arith
under_kind Refusal = omega arith

-- all that is written before the closing byte may stand in a line
sound_digits : (bs : List ℕ) → AllBelowBase 256 bs → AllByRecursion (λ b. is_sound b ≡ true) (hex bs)
sound_digits bs u = All-weaker (λ d. is_digit d ≡ true) (λ b. is_sound b ≡ true) (λ b e. or_left (is_digit b) (eqb b space) e) (hex bs) (digits_hex bs u)

sound_fields : (ws vs : List ℕ) → AllByRecursion (λ b. is_sound b ≡ true) (fields_text ws vs)
sound_fields [] vs = tt
sound_fields (w ∷ ws) [] = tt
sound_fields (w ∷ ws) (v ∷ vs) = (refl, All-append (λ b. is_sound b ≡ true) (hex (wide w v)) (fields_text ws vs) (sound_digits (wide w v) (under_wide w v)) (sound_fields ws vs))

sound_data : (d : Bool) (ns : List ℕ) → AllBelowBase 256 ns → AllByRecursion (λ b. is_sound b ≡ true) (cond d (space ∷ hex ns) [])
sound_data false ns u = tt
sound_data true ns u = (refl, sound_digits ns u)

sound_inline : (b : ℕ) → is_sound b ≡ true → is_inline b ≡ true
sound_inline b e = grind (arith, nat_tests)

-- the line without its closing byte
abbrev body_of : Kind → List ℕ → List ℕ → List ℕ
body_of k vs ns = hex (kind_number k ∷ []) ++ (fields_text (widths k) vs ++ data_text k ns)

sound_body : (k : Kind) (vs ns : List ℕ) → AllBelowBase 256 ns → AllByRecursion (λ b. is_sound b ≡ true) (body_of k vs ns)
sound_body k vs ns u =
    let p = λ (b : ℕ). is_sound b ≡ true in
    All-append p (hex (kind_number k ∷ [])) (fields_text (widths k) vs ++ data_text k ns) (sound_digits (kind_number k ∷ []) (under_kind k, tt))
    (All-append p (fields_text (widths k) vs) (data_text k ns) (sound_fields (widths k) vs) (sound_data (has_data k) ns u))

-- a line with at most 70 numbers has at most 168 bytes, whatever its kind
reach-most : (k : Kind) → reach (widths k) ≤ 24
reach-most Plan = omega arith
reach-most Row = omega arith
reach-most Card = omega arith
reach-most Key = omega arith
reach-most Dummy = omega arith
reach-most Refusal = omega arith

data_most : (d : Bool) (ns : List ℕ) → length (cond d (space ∷ hex ns) []) ≤ 1 + 2 * length ns
data_most false ns = omega arith
data_most true ns = omega (arith, length-hex ns)

pub written-most : (c : Content) → length c.numbers ≤ 70 → length (written c) ≤ 168
written-most c few =
    let k = c.kind in
    let f = fields_text (widths k) c.fields in
    let d = data_text k c.numbers in
    let close : List ℕ = newline ∷ [] in
    omega (arith, few, length-append f (d ++ close), length-append d close, fields_most (widths k) c.fields, reach-most k, data_most (has_data k) c.numbers)

join : (h f d more : List ℕ) (n : ℕ) → (h ++ (f ++ (d ++ (n ∷ [])))) ++ more ≡ (h ++ (f ++ d)) ++ (n ∷ more)
join h f d more n = simp append_assoc

-- a line of such bytes, closed, before other text
module _ (l more : List ℕ) (sound : AllByRecursion (λ b. is_sound b ≡ true) l) (long : 0 < length l) where
  lead : prefix_len is_inline (l ++ (newline ∷ more)) ≡ length l
  lead =
      let inline = All-weaker (λ b. is_sound b ≡ true) (λ b. is_inline b ≡ true) sound_inline l sound in
      omega (arith, leading_append is_inline l (newline ∷ more) inline)

  head_line : head (l ++ (newline ∷ more)) ≡ l
  head_line = ap (λ n. take n (l ++ (newline ∷ more))) lead ∙ take_at l (newline ∷ more) (length l) refl

  rest-line : rest (l ++ (newline ∷ more)) ≡ more
  rest-line =
      ap (λ x. drop (length x + 1) (l ++ (newline ∷ more))) head_line ∙ sym (drop-drop 1 (length l) (l ++ (newline ∷ more))) ∙
      ap (drop 1) (drop_at l (newline ∷ more) (length l) refl)

  lined : lineless (l ++ (newline ∷ more)) ≡ false
  lined =
      ap (λ n. eqb n 0 || leb (length (l ++ (newline ∷ more))) n) lead ∙
      or_from (eqb (length l) 0) (leb (length (l ++ (newline ∷ more))) (length l)) (ne_eqb (length l) 0 (λ e. omega arith)) (lt-leb (length (l ++ (newline ∷ more))) (length l) (omega (arith, length-append l (newline ∷ more))))

  reading_line : (w : Wanted) → reading w (l ++ (newline ∷ more)) ≡ unless (first (line_faults w l)) (content_of (kind_of w) l)
  reading_line w = reading-head w (l ++ (newline ∷ more)) lined ∙ ap (λ x. unless (first (line_faults w x)) (content_of (kind_of w) x)) head_line

-- what follows a line that was written, whatever its fields are
pub rest-written : (c : Content) (more : List ℕ) → AllBelowBase 256 c.numbers → rest (written c ++ more) ≡ more
rest-written c more u =
    let k = c.kind in
    ap rest (join (hex (kind_number k ∷ [])) (fields_text (widths k) c.fields) (data_text k c.numbers) more newline)
    ∙ rest-line (body_of k c.fields c.numbers) more (sound_body k c.fields c.numbers u) (omega arith)

-- a line of the kind and form that are wanted has no fault in its text
no_text_fault : (k : Kind) (l : List ℕ) → AllByRecursion (λ b. is_sound b ≡ true) l → of_kind k l ≡ true → formed k l ≡ true → first (text_faults k l) ≡ None
no_text_fault k l s e f =
    first_next (ltb (sound_to l) (length l)) (Byte (sound_to l)) ((not (of_kind k l), Unwanted) ∷ (not (formed k l), Shape) ∷ []) (le-ltb (sound_to l) (length l) (omega (arith, leading_all is_sound l s))) ∙
    first_next (not (of_kind k l)) Unwanted ((not (formed k l), Shape) ∷ []) (not_from_true (of_kind k l) e) ∙
    first_next (not (formed k l)) Shape [] (not_from_true (formed k l) f)

content_back : (c : Content) → Fitting c → content_of c.kind (body_of c.kind c.fields c.numbers) ≡ c
content_back c f =
    let k = c.kind in
    let body = body_of k c.fields c.numbers in
    let place : 3 + reach (widths k) ≡ 2 + (reach (widths k) + 1) = omega arith in
    let on : drop (data_place k) body ≡ drop (reach (widths k) + 1) (drop 2 body) = ap (λ n. drop n body) place ∙ sym (drop-drop (reach (widths k) + 1) 2 body) in
    λ i. record {
      kind = k;
      fields = values_text (widths k) c.fields (data_text k c.numbers) f.fields i;
      numbers = (ap (λ x. cond (has_data k) (spelled x) []) on ∙ numbers_text k c.fields c.numbers f.fields f.numbers f.some) i;
    }

pub rereads : Rereads
rereads c w more e f =
    let k = c.kind in
    let ns = c.numbers in
    let l = body_of k c.fields ns in
    let sound = sound_body k c.fields ns f.numbers in
    let joined = join (hex (kind_number k ∷ [])) (fields_text (widths k) c.fields) (data_text k ns) more newline in
    let first_field = kind_first k (fields_text (widths k) c.fields ++ data_text k ns) (no_digit (widths k) c.fields (has_data k) ns) in
    let form = shaped_fields (widths k) c.fields (data_text k ns) (has_data k) f.fields (shaped_data (has_data k) ns f.numbers f.some) in
    let clean : first (text_faults (kind_of w) l) ≡ None = ap (λ x. first (text_faults x l)) e ∙ no_text_fault k l sound first_field form in
    let same : content_of (kind_of w) l ≡ c = ap (λ x. content_of x l) e ∙ content_back c f in (
      ap (reading w) joined ∙ reading_line l more sound (omega arith) w ∙ sound_text w l clean ∙ ap (judged w) same,
      rest-written c more f.numbers,
    )
