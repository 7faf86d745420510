-- A card line's numbers, as the card that is made of it has them. Assumes nothing.
use Rattle.std.proofs.Common.{◌≡◌, ℕ, ◌<◌, true, ◌&&◌, eqb, ltb, List, [], ◌∷◌, length, get_or, take, drop, sym, ap, ◌∙◌, arith, length-take}
use Rattle.std.proofs.lemmas.List.{take_all}
use Rattle.std.proofs.lemmas.Bool.{and_parts, ltb-true, eqb-true}
use Rattle.lines.proofs.Spelling.{length-spelled}
use Rattle.lines.specs.Digits.{spelled, numeral}
use Rattle.lines.specs.Lines.{Content, Kept, content, parts, parts_of, planned, sized}
use Rattle.lines.specs.declared.kind.Kind.TheVariants as kind
use Rattle.lines.specs.declared.line.Line.TheVariants as line
use Rattle.lines.specs.declared.mark.DealMark.{DealMark}
use Rattle.lines.specs.declared.part.Part.{Part}
use Rattle.lines.specs.declared.wanted.Wanted.TheVariants as wanted

module _ (mark f t n j L : ℕ) (m d : Part) (x : DealMark) where
  dealt-parts : Kept (wanted.Card mark) (content (line.Card f m t n j L d))
      → (f ≡ mark) × (planned t n ≡ true) × (j < n) × (sized L ≡ true)
  dealt-parts k =
      let a = and_parts (eqb f mark) (planned t n && (ltb j n && sized L)) k.limits in
      let b = and_parts (planned t n) (ltb j n && sized L) a.1 in
      let e = and_parts (ltb j n) (sized L) b.1 in
      (eqb-true f mark a.0, b.0, ltb-true j n e.0, e.1)

  whole_mark : (l : List ℕ) → parts (line.Card f m t n j L d) ≡ parts_of kind.Card l → take 4 (spelled m.digits.now) ≡ spelled m.digits.now
  whole_mark l e =
      let is : m.digits.now ≡ take 8 (drop 6 l) = ap (λ ps. (get_or {A = ℕ × List ℕ} ps 0 (0, [])).1) e in
      let n : length m.digits.now ≡ length (take 8 (drop 6 l)) = ap length is in
      take_all 4 (spelled m.digits.now) (omega (arith, length-spelled m.digits.now, length-take 8 (drop 6 l)))

  pub same_content : (l : List ℕ) → Kept (wanted.Card mark) (content (line.Card f m t n j L d))
      → parts (line.Card f m t n j L d) ≡ parts_of kind.Card l → x.number ≡ numeral (take 4 (spelled m.digits.now))
      → ◌≡◌ {A = Content} (record { kind = kind.Card; fields = mark ∷ x.number ∷ t ∷ n ∷ j ∷ L ∷ []; numbers = spelled d.digits.now }) (content (line.Card f m t n j L d))
  same_content l k e h =
      let a : mark ≡ f = sym (dealt-parts k).0 in
      let b : x.number ≡ numeral (spelled m.digits.now) = h ∙ ap numeral (whole_mark l e) in
      λ i. record { kind = kind.Card; fields = a i ∷ b i ∷ t ∷ n ∷ j ∷ L ∷ []; numbers = spelled d.digits.now }
