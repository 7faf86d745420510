-- What a line that was read says: a plan, a key, or a row or dummy key of a block. Assumes nothing.
use Rattle.std.proofs.Common.{◌≡◌, ℕ, ◌-◌, ◌%◌, ◌^◌, ◌<◌, ◌≤◌, true, ◌&&◌, eqb, ltb, List, [], ◌++◌, map, length, get_or, take, drop, Ok, sym, refl, ap, ◌∙◌, subst, ⊎_elim, arith, length-append, length-drop, length-take}
use Rattle.std.specs.Int.Digits.{AllBelowBase}
use Rattle.std.proofs.lemmas.List.{take_all}
use Rattle.std.proofs.lemmas.Bool.{and_parts, or_cases, eqb-true, leb-true, ltb-true}
use Rattle.field.specs.Known.{operations}
use Rattle.field.specs.declared.known.Known.{Known}
use Rattle.field.specs.declared.known.Known.TheVariants.{Bytes, Modulo97}
use Rattle.lines.specs.Digits.{numeral, spelled}
use Rattle.lines.specs.Lines.{Content, Kept, among, content, head, kind_of, parts, parts_of, planned, reading, told}
use Rattle.lines.specs.Readers.{left, longest_text, standing}
use Rattle.lines.specs.Shapes.{shaped, spaced}
use Rattle.lines.specs.Writing.{written}
use Rattle.lines.specs.declared.kind.Kind.{Kind}
use Rattle.lines.specs.declared.kind.Kind.TheVariants as kind
use Rattle.lines.specs.declared.line.Line.{Line}
use Rattle.lines.specs.declared.line.Line.TheVariants as line
use Rattle.lines.specs.declared.part.Part.{Part}
use Rattle.lines.specs.declared.reader.Reader.{Reader}
use Rattle.lines.specs.declared.wanted.Wanted.{Wanted}
use Rattle.lines.specs.declared.wanted.Wanted.TheVariants as wanted
use Rattle.lines.proofs.Numerals.{numeral_below, under_spelled}
use Rattle.lines.proofs.Readings.{read_ok}
use Rattle.lines.proofs.Spelling.{length-spelled}
use Rattle.programs.specs.Answers.{Answer, Stops, noticed}
use Rattle.programs.specs.declared.stop.Stop.{Stop}
use Rattle.programs.specs.declared.stop.Stop.TheVariants.{Refused, NoMemory}
use Rattle.programs.specs.Texts as texts
use Rattle.programs.specs.Texts.{Block, KeyHead, Plain, PlanHead, WantsPlan, data_line, key_line, known_marks, plan_line, text_of, width}

-- a known mark is that of a field
pub marked : (f : ℕ) → among f known_marks ≡ true → ((k : Known) → (operations k).mark ≡ f → ⊥) → ⊥
marked f e none =
    ⊎_elim (λ a. none Bytes (sym (eqb-true f 1 a)))
    (λ b. ⊎_elim (λ a. none Modulo97 (sym (eqb-true f 2 a))) (λ z. let w : ◌≡◌ {A = ℕ} 0 1 = cc in omega arith) (or_cases (eqb f 2) _ b))
    (or_cases (eqb f 1) _ e)

-- a key has a number: its line has data
key_some : (text : List ℕ) (c : Content) → reading wanted.Key text ≡ Ok c → 1 ≤ length c.numbers
key_some text c e =
    let o = read_ok wanted.Key text c e in
    let h = head text in
    let x = drop 9 (drop 2 h) in
    let a = and_parts (spaced 8 (drop 2 h)) (shaped [] true x) o.formed in
    let b = and_parts (spaced (length x - 1) x) (ltb 1 (length x) && eqb (length x % 2) 1) a.1 in
    let d = and_parts (ltb 1 (length x)) (eqb (length x % 2) 1) b.1 in
    let is = ap (λ y. length y.numbers) o.is in
    omega (arith, ltb-true 1 (length x) d.0, eqb-true (length x % 2) 1 d.1, is, length-spelled (drop 12 h), length-drop 12 h, length-drop 9 (drop 2 h), length-drop 2 h)

-- what a key line says
pub key_head : (want : Wanted) (l : Line) (mark key : Part) (m : ℕ) (text rest : List ℕ) → want ≡ wanted.Key → l ≡ line.Key mark key → told (Ok l) ≡ reading want text
    → parts l ≡ parts_of (kind_of want) (head text) → Kept want (content l) → written (content l) ++ rest ≡ text
    → m ≡ numeral (take 4 (spelled mark.digits.now)) → KeyHead m (spelled key.digits.now) text rest
key_head want l mark key m text rest wants is t p k w e =
    let ds = mark.digits.now in
    let at : parts (line.Key mark key) ≡ parts_of kind.Key (head text) = subst (λ x. parts x ≡ parts_of kind.Key (head text)) is (p ∙ ap (λ x. parts_of (kind_of x) (head text)) wants) in
    let first : ds ≡ take 8 (drop 3 (head text)) = ap (λ (ps : List (ℕ × List ℕ)). (get_or ps 0 (0, [])).1) at in
    let few : length (spelled ds) ≤ 4 = omega (arith, length-spelled ds, ap length first, length-take 8 (drop 3 (head text))) in
    let all : m ≡ numeral (spelled ds) = e ∙ ap numeral (take_all 4 (spelled ds) few) in
    record {
      four = subst (λ x. x < 256 ^ 4) (sym all) (numeral_below (spelled ds) 4 (under_spelled ds) few);
      bytes = under_spelled key.digits.now;
      some = key_some text (key_line (numeral (spelled ds)) (spelled key.digits.now)) (sym (subst (λ x. told (Ok x) ≡ reading wanted.Key text) is (t ∙ ap (λ x. reading x text) wants)));
      most = leb-true (length (spelled key.digits.now)) 64 (subst (λ x. Kept wanted.Key (content x)) is (subst (λ x. Kept x (content l)) wants k)).limits;
      is = sym w ∙ ap (λ x. written (content x) ++ rest) is ∙ ap (λ x. written (key_line x (spelled key.digits.now)) ++ rest) (sym all);
    }

-- what is left after a key line is shorter
pub key_shorter : (m : ℕ) (key text rest : List ℕ) → KeyHead m key text rest → length rest ≤ length text
key_shorter m key text rest h = omega (arith, ap length h.is, length-append (written (key_line m key)) rest)

-- what is left after a plan line is shorter
pub plan_shorter : (known : Known) (t n : ℕ) (text rest : List ℕ) → PlanHead known t n text rest → length rest ≤ length text
plan_shorter known t n text rest h = omega (arith, ap length h.is, length-append (written (plan_line (operations known).mark t n)) rest)

-- what is left after a block is shorter
pub block_shorter : (k : Kind) (w n : ℕ) (text xs rest : List ℕ) → Block k w n text xs rest → length rest ≤ length text
block_shorter k w n text xs rest b = omega (arith, ap length b.is, length-append (text_of (map (data_line k) (texts.parts n w xs))) rest)

-- what is left to a reader is not too long
pub left_short : (r : Reader) → length (left (standing r)) ≤ longest_text
left_short r = omega (arith, r.short, length-drop r.start r.text.now)

-- a stop says what follows from what it says
pub stops_more : (s : Stop) (P Q : Answer → Type 0) → ((a : Answer) → P a → Q a) → Stops s P → Stops s Q
stops_more (Refused n) P Q f h = f (noticed n) h
stops_more NoMemory P Q f h = tt

-- what is kept by a plan line that is wanted
pub plan-kept : (want : Wanted) → WantsPlan want → (l : Line) (f t n : ℕ) → l ≡ line.Plan f t n → Kept want (content l) → (among f known_marks ≡ true) × (planned t n ≡ true)
plan-kept (wanted.Plan m) e l f t n is k =
    let at = subst (λ x. Kept (wanted.Plan m) (content x)) is k in
    and_parts (among f known_marks) (planned t n) (ap (λ ms. among f ms && planned t n) (sym e) ∙ at.limits)
plan-kept (wanted.Row x) e l f t n is k = elim e [ ]
plan-kept (wanted.Card x) e l f t n is k = elim e [ ]
plan-kept wanted.Key e l f t n is k = elim e [ ]
plan-kept (wanted.Dummy x y) e l f t n is k = elim e [ ]

-- what a plan line says
pub plan-head : (l : Line) (f t n : ℕ) (known : Known) (text rest : List ℕ) → l ≡ line.Plan f t n → planned t n ≡ true
    → written (content l) ++ rest ≡ text → (operations known).mark ≡ f → PlanHead known t n text rest
plan-head l f t n known text rest is p w e = record {
  limits = p;
  is = sym w ∙ ap (λ x. written (content x) ++ rest) is ∙ ap (λ x. written (plan_line x t n) ++ rest) (sym e);
}

-- a row or a dummy key has data only, as much as it should
pub plain_line : (w : Wanted) → Plain w → (l : Line) → Kept w (content l)
    → (content l ≡ data_line (kind_of w) (content l).numbers) × (length (content l).numbers ≡ width w) × AllBelowBase 256 (content l).numbers
plain_line (wanted.Plan m) p l k = elim p [ ]
plain_line (wanted.Card m) p l k = elim p [ ]
plain_line wanted.Key p l k = elim p [ ]
plain_line (wanted.Row t) p (line.Row d) k = (refl, eqb-true _ t k.count, under_spelled d.digits.now)
plain_line (wanted.Row t) p (line.Plan f a b) k = let e = k.kind in let z : ◌≡◌ {A = ℕ} 0 1 = cc in absurd (omega arith)
plain_line (wanted.Row t) p (line.Card f m a b j s d) k = let e = k.kind in let z : ◌≡◌ {A = ℕ} 0 1 = cc in absurd (omega arith)
plain_line (wanted.Row t) p (line.Key m d) k = let e = k.kind in let z : ◌≡◌ {A = ℕ} 0 1 = cc in absurd (omega arith)
plain_line (wanted.Row t) p (line.Dummy d) k = let e = k.kind in let z : ◌≡◌ {A = ℕ} 0 1 = cc in absurd (omega arith)
plain_line (wanted.Dummy t s) p (line.Dummy d) k = (refl, eqb-true _ _ k.count, under_spelled d.digits.now)
plain_line (wanted.Dummy t s) p (line.Plan f a b) k = let e = k.kind in let z : ◌≡◌ {A = ℕ} 0 1 = cc in absurd (omega arith)
plain_line (wanted.Dummy t s) p (line.Card f m a b j z d) k = let e = k.kind in let z : ◌≡◌ {A = ℕ} 0 1 = cc in absurd (omega arith)
plain_line (wanted.Dummy t s) p (line.Key m d) k = let e = k.kind in let z : ◌≡◌ {A = ℕ} 0 1 = cc in absurd (omega arith)
plain_line (wanted.Dummy t s) p (line.Row d) k = let e = k.kind in let z : ◌≡◌ {A = ℕ} 0 1 = cc in absurd (omega arith)
