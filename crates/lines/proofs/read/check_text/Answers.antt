-- The first byte at fault, then the kind, then the shape.
use Rattle.std.proofs.Common.{◌≡◌, ℕ, ◌+◌, Bool, true, false, cond, not, ltb, List, [], ◌∷◌, length, position, Option, Some, None, sym, refl, ap, ◌∙◌}
use Rattle.std.specs.List.{prefix_len}
use Rattle.lines.specs.Digits.{is_sound}
use Rattle.lines.specs.Faults.{first}
use Rattle.lines.specs.Lines.{of_kind, formed, text_faults, unless}
use Rattle.lines.specs.declared.fault.Fault.{Fault}
use Rattle.lines.specs.declared.fault.Fault.TheVariants.{Byte, Unwanted, Shape}
use Rattle.lines.specs.declared.kind.Kind.{Kind}
use Rattle.lines.proofs.read.check_text.Goals as goal

not_not : (b : Bool) → not (not b) ≡ b
not_not true = refl
not_not false = refl

twice : (xs : List ℕ) → prefix_len (λ b. not (not (is_sound b))) xs ≡ prefix_len is_sound xs
twice [] = refl
twice (x ∷ xs) = λ i. cond (not_not (is_sound x) i) (1 + twice xs i) 0

-- the place of the first byte that is not sound is how far the line is sound
place_is : (l : List ℕ) → position (λ b. not (is_sound b)) l ≡ cond (ltb (prefix_len is_sound l) (length l)) (Some (prefix_len is_sound l)) None
place_is l = ap (λ n. cond (ltb n (length l)) (Some n) None) (twice l)

at_place : (b : Bool) (s n : ℕ) (r : Option Fault) → cond b (Some s) None ≡ Some n → cond b (Some (Byte s)) r ≡ Some (Byte n)
at_place true s n r e = cc
at_place false s n r e = cc

at_none : (b : Bool) (s : ℕ) (r : Option Fault) → cond b (Some s) None ≡ None → cond b (Some (Byte s)) r ≡ r
at_none true s r e = cc
at_none false s r e = refl

-- what comes where every byte is sound
abbrev later : Bool → Bool → Option Fault
later p q = cond (not p) (Some Unwanted) (cond (not q) (Some Shape) None)

module _ (k : Kind) (l : List ℕ) where
  unsound : (n : ℕ) → position (λ b. not (is_sound b)) l ≡ Some n → first (text_faults k l) ≡ Some (Byte n)
  unsound n e = at_place (ltb (prefix_len is_sound l) (length l)) (prefix_len is_sound l) n (later (of_kind k l) (formed k l)) (sym (place_is l) ∙ e)

  sound : position (λ b. not (is_sound b)) l ≡ None → first (text_faults k l) ≡ later (of_kind k l) (formed k l)
  sound e = at_none (ltb (prefix_len is_sound l) (length l)) (prefix_len is_sound l) (later (of_kind k l) (formed k l)) (sym (place_is l) ∙ e)

  by_tests : (p q : Bool) → None ≡ position (λ b. not (is_sound b)) l → p ≡ of_kind k l → q ≡ formed k l → unless (later p q) (tt {0}) ≡ unless (first (text_faults k l)) (tt {0})
  by_tests p q e f g = (λ i. unless (later (f i) (g i)) (tt {0})) ∙ ap (λ o. unless o (tt {0})) (sym (sound (sym e)))

pub returns-in-Some : goal.returns-in-Some
returns-in-Some c = ap (λ o. unless o (tt {0})) (sym (unsound c.args.kind c.args.line.now c.in-Some.place (sym c.in-Some.ensures)))

pub returns-then-not-is_of_kind : goal.returns-then-not-is_of_kind
returns-then-not-is_of_kind c = by_tests c.args.kind c.args.line.now false _ c.in_default.ensures c.if-not-is_of_kind.ensures refl

pub returns-then-not-is_formed : goal.returns-then-not-is_formed
returns-then-not-is_formed c = by_tests c.args.kind c.args.line.now true false c.in_default.ensures c.if-not-is_of_kind.ensures c.if-not-is_formed.ensures

pub returns : goal.returns
returns c = by_tests c.args.kind c.args.line.now true true c.in_default.ensures c.if-not-is_of_kind.ensures c.if-not-is_formed.ensures
