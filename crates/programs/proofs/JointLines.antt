-- The lines of a text that was written line by line: its front, one line of it, and lines chosen by number. Assumes nothing.
--   Modest    a line's data are bytes, and no more than a card has
use Rattle.std.proofs.Common.{◌≡◌, ℕ, zero, suc, ◌+◌, ◌*◌, ◌<◌, ◌≤◌, List, [], ◌∷◌, ◌++◌, map, length, get_or, sym, refl, ap, ◌∙◌, append_assoc, append-nil, suc-mul, arith, length-append}
use Rattle.std.specs.List.{range_with_len, AllByRecursion}
use Rattle.std.specs.Int.Digits.{AllBelowBase}
use Rattle.std.proofs.lemmas.List.FromFn.{get_or-map-range_with_len, length-map-range_with_len}
use Rattle.std.proofs.lemmas.List.{append_cancel_right, take-append-drop}
use Rattle.lines.specs.Lines.{Content, head}
use Rattle.lines.specs.Readers.{line_text}
use Rattle.lines.specs.RoundTrips.{rest}
use Rattle.lines.specs.Writing.{written}
use Rattle.lines.proofs.Rereading.{rest-written, written-most}
use Rattle.programs.specs.Joint.{chosen, front, line_at}
use Rattle.programs.specs.Texts.{text_of}

pub record Modest (c : Content) : Type 0 where
  pub bytes : AllBelowBase 256 c.numbers
  pub few : length c.numbers ≤ 70

-- the line at the head of what was written
pub first-written : (c : Content) (more : List ℕ) → Modest c → line_text (written c ++ more) ≡ written c
first-written c more m =
    let text = written c ++ more in
    append_cancel_right (line_text text) (written c) more
    (ap (λ l. line_text text ++ l) (sym (rest-written c more m.bytes)) ∙ take-append-drop (length (head text) + 1) text)

-- behind it come the other lines
rest_lines : (c : Content) (cs : List Content) (more : List ℕ) → Modest c → rest (text_of (c ∷ cs) ++ more) ≡ text_of cs ++ more
rest_lines c cs more m = ap rest (append_assoc (written c) (text_of cs) more) ∙ rest-written c (text_of cs ++ more) m.bytes

first_lines : (c : Content) (cs : List Content) (more : List ℕ) → Modest c → line_text (text_of (c ∷ cs) ++ more) ≡ written c
first_lines c cs more m = ap line_text (append_assoc (written c) (text_of cs) more) ∙ first-written c (text_of cs ++ more) m

-- as many lines as were written are what was written
pub front-written : (cs : List Content) (more : List ℕ) → AllByRecursion Modest cs → front (length cs) (text_of cs ++ more) ≡ text_of cs
front-written [] more u = refl
front-written (c ∷ cs) more u =
    (λ i. first_lines c cs more u.0 i ++ front (length cs) (rest_lines c cs more u.0 i))
    ∙ ap (λ l. written c ++ l) (front-written cs more u.1)

-- and then comes the line behind them
pub line_behind : (cs : List Content) (more : List ℕ) → AllByRecursion Modest cs → line_at (length cs) (text_of cs ++ more) ≡ line_text more
line_behind [] more u = refl
line_behind (c ∷ cs) more u = ap (line_at (length cs)) (rest_lines c cs more u.0) ∙ line_behind cs more u.1

-- one of the lines
line-written : (cs : List Content) (k : ℕ) (d : Content) (more : List ℕ) → AllByRecursion Modest cs → k < length cs → line_at k (text_of cs ++ more) ≡ written (get_or cs k d)
line-written [] k d more u h = absurd (omega arith)
line-written (c ∷ cs) zero d more u h = first_lines c cs more u.0
line-written (c ∷ cs) (suc k) d more u h = ap (line_at k) (rest_lines c cs more u.0) ∙ line-written cs k d more u.1 (omega arith)

-- lines chosen from one line for each number below n
pub chosen-written : (f : ℕ → Content) (n : ℕ) (js : List ℕ) → AllByRecursion Modest (map f (range_with_len 0 n)) → ((m : ℕ) → m < length js → get_or js m 0 < n)
    → chosen js (text_of (map f (range_with_len 0 n))) ≡ text_of (map f js)
chosen-written f n [] u below = refl
chosen-written f n (j ∷ js) u below =
    let lines = map f (range_with_len 0 n) in
    let here : j < n = below 0 (omega arith) in
    let one : line_at j (text_of lines) ≡ written (f j) =
    ap (line_at j) (sym (append-nil (text_of lines)))
    ∙ line-written lines j (f j) [] u (omega (arith, here, length-map-range_with_len f 0 n))
    ∙ ap written (get_or-map-range_with_len f 0 n j j (f j) here (omega arith))
    in
    (λ i. one i ++ chosen-written f n js u (λ m h. below (suc m) (omega arith)) i)

-- how long such lines are
pub lines_most : (cs : List Content) → AllByRecursion Modest cs → length (text_of cs) ≤ length cs * 168
lines_most [] u = omega arith
lines_most (c ∷ cs) u =
    omega (arith, length-append (written c) (text_of cs), written-most c u.0.few, lines_most cs u.1, suc-mul (length cs) 168)
