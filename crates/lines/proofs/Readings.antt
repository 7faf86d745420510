-- What follows once reading gave a line, or a fault. Assumes nothing.
use Rattle.std.proofs.Common.{◌≡◌, ℕ, ◌≤◌, Bool, true, false, cond, not, eqb, ltb, List, [], ◌∷◌, length, Some, None, Ok, Err, Option, sym, refl, ap, ◌∙◌, subst, arith, length-take}
use Rattle.std.specs.List.{prefix_len, AllByRecursion}
use Rattle.std.proofs.lemmas.List.Sums.{prefix_len-le-length}
use Rattle.std.proofs.lemmas.Bool.{not-false}
use Rattle.lines.specs.Digits.{is_inline, is_sound}
use Rattle.lines.specs.Faults.{first, fault_carries, fault_number}
use Rattle.lines.specs.Lines.{Content, Kept, head, lineless, sound_to, of_kind, formed, kind_of, content_of, within, counted, line_faults, number_faults, faults, unless, reading}
use Rattle.lines.specs.declared.fault.Fault.{Fault}
use Rattle.lines.specs.declared.fault.Fault.TheVariants.{Absent, Byte, Unwanted, Shape, Limits, Length}
use Rattle.lines.specs.declared.wanted.Wanted.{Wanted}
use Rattle.lines.proofs.Firsts.{first-clear}

pub unless_ok : {A : Type 0} (o : Option Fault) (x c : A) → unless o x ≡ Ok c → (o ≡ None) × (x ≡ c)
unless_ok None x c e = (refl, cc)
unless_ok (Some f) x c e = let z : ◌≡◌ {A = ℕ} 0 1 = cc in absurd (omega arith)

pub unless_err : {A : Type 0} (o : Option Fault) (x : A) (f : Fault) → unless o x ≡ Err f → o ≡ Some f
unless_err None x f e = let z : ◌≡◌ {A = ℕ} 0 1 = cc in absurd (omega arith)
unless_err (Some g) x f e = cc

-- a text whose head was read without a fault
pub record Sound-line (w : Wanted) (text : List ℕ) (c : Content) : Type 0 where
  pub is : content_of (kind_of w) (head text) ≡ c
  pub there : lineless text ≡ false
  pub of_kind : of_kind (kind_of w) (head text) ≡ true
  pub formed : formed (kind_of w) (head text) ≡ true
  pub kept : Kept w c

pub read_ok : (w : Wanted) (text : List ℕ) (c : Content) → reading w text ≡ Ok c → Sound-line w text c
read_ok w text c e =
    let k = kind_of w in
    let l = head text in
    let u = unless_ok (first (faults w text)) (content_of k l) c e in
    let a = first-clear (lineless text) Absent (line_faults w l) u.0 in
    let ns = number_faults w (content_of k l) in
    let b = first-clear (ltb (sound_to l) (length l)) (Byte (sound_to l)) ((not (of_kind k l), Unwanted) ∷ (not (formed k l), Shape) ∷ ns) a.1 in
    let d = first-clear (not (of_kind k l)) Unwanted ((not (formed k l), Shape) ∷ ns) b.1 in
    let f = first-clear (not (formed k l)) Shape ns d.1 in
    let g = first-clear (not (within w (content_of k l))) Limits ((not (counted w (content_of k l)), Length) ∷ []) f.1 in
    let h = first-clear (not (counted w (content_of k l))) Length [] g.1 in
    record {
      is = u.1;
      there = a.0;
      of_kind = not-false (of_kind k l) d.0;
      formed = not-false (formed k l) f.0;
      kept = record {
        kind = ap (λ x. x.kind) (sym u.1);
        limits = ap (within w) (sym u.1) ∙ not-false (within w (content_of k l)) g.0;
        count = ap (counted w) (sym u.1) ∙ not-false (counted w (content_of k l)) h.0;
      };
    }

-- what every fault of a list keeps to, the first one keeps to
first_all : (P : Fault → Type 0) (xs : List (Bool × Fault)) (f : Fault) → AllByRecursion (λ x. P x.1) xs → first xs ≡ Some f → P f
first_all P [] f u e = let z : ◌≡◌ {A = ℕ} 0 1 = cc in absurd (omega arith)
first_all P (x ∷ xs) f u e = go x.0 refl (first_all P xs f u.1)
  where
    go : (b : Bool) → x.0 ≡ b → (first xs ≡ Some f → P f) → P f
    go true p ih =
        let q : Some x.1 ≡ Some f = sym (ap (λ b. cond b (Some x.1) (first xs)) p) ∙ e in
        let r : x.1 ≡ f = cc in
        subst P r u.0
    go false p ih = ih (sym (ap (λ b. cond b (Some x.1) (first xs)) p) ∙ e)

-- what a fault carries lies within the text
pub read_err : (w : Wanted) (text : List ℕ) (f : Fault) → reading w text ≡ Err f → fault_carries f ≤ length text
read_err w text f e =
    let l = head text in
    let place : sound_to l ≤ length text = omega (arith, prefix_len-le-length is_sound l, length-take (prefix_len is_inline text) text) in
    first_all (λ g. fault_carries g ≤ length text) (faults w text) f
    (omega arith, (place, (omega arith, (omega arith, (omega arith, (omega arith, tt))))))
    (unless_err (first (faults w text)) (content_of (kind_of w) l) f e)

-- reading a line is never refused for text after it
pub read_err_line : (w : Wanted) (text : List ℕ) (f : Fault) → reading w text ≡ Err f → eqb (fault_number f) 0x46 ≡ false
read_err_line w text f e =
    first_all (λ g. eqb (fault_number g) 0x46 ≡ false) (faults w text) f (refl, (refl, (refl, (refl, (refl, (refl, tt))))))
    (unless_err (first (faults w text)) (content_of (kind_of w) (head text)) f e)
