-- A card by the places of its fields.
use Rattle.std.proofs.Common.{◌≡◌, ℕ, List, [], ◌∷◌, take, drop, sym, refl, ◌∙◌}
use Rattle.std.proofs.lemmas.Bool.{eq-eqb, ne_eqb}
use Rattle.lines.specs.Digits.{spelled, numeral}
use Rattle.lines.specs.Lines.{Content, content_of}
use Rattle.lines.specs.declared.kind.Kind.TheVariants as kind
use Rattle.lines.specs.declared.wanted.Wanted.TheVariants as wanted
use Rattle.lines.proofs.Contents.{field_at, content-by, judged_ok, judged_limits, judged_length}
use Rattle.lines.proofs.read.card.Goals as goal

abbrev card_of : ℕ → List ℕ → ℕ → ℕ → ℕ → ℕ → List ℕ → Content
card_of f m t n j s d = record { kind = kind.Card; fields = f ∷ numeral (spelled m) ∷ t ∷ n ∷ j ∷ s ∷ []; numbers = spelled d }

card_is : (l : List ℕ) {f t n j s : ℕ} {m d : List ℕ} → f ≡ field_at 2 3 l → m ≡ take 8 (drop 6 l) → t ≡ field_at 2 15 l → n ≡ field_at 2 18 l → j ≡ field_at 2 21 l → s ≡ field_at 2 24 l → d ≡ drop 27 l → content_of kind.Card l ≡ card_of f m t n j s d
card_is l f m t n j s d =
    content-by kind.Card l _ refl ∙
    (λ i. card_of (sym f i) (sym m i) (sym t i) (sym n i) (sym j i) (sym s i) (sym d i))

-- src/read.rt:109:9
pub returns-then-not-is_dealt : goal.returns-then-not-is_dealt
returns-then-not-is_dealt c =
    let l = c.args.line.now in
    let e = card_is l c.byte_at-field.ensures c.part_at-deal.ensures.digits c.byte_at-t.ensures c.byte_at-n.ensures c.byte_at-number.ensures c.byte_at-size.ensures c.tail_at-data.ensures.digits in
    record { told = sym (judged_limits (wanted.Card c.args.mark) (content_of kind.Card l) _ e (sym c.if-not-is_dealt.ensures)); parts = tt }

-- src/read.rt:112:9
pub returns-then-count-padded_size : goal.returns-then-count-padded_size
returns-then-count-padded_size c =
    let l = c.args.line.now in
    let e = card_is l c.byte_at-field.ensures c.part_at-deal.ensures.digits c.byte_at-t.ensures c.byte_at-n.ensures c.byte_at-number.ensures c.byte_at-size.ensures c.tail_at-data.ensures.digits in
    let long = ne_eqb _ _ (λ h. c.if-count-padded_size.true (c.count.ensures ∙ h ∙ sym c.padded_size.ensures)) in
    record { told = sym (judged_length (wanted.Card c.args.mark) (content_of kind.Card l) _ e (sym c.if-not-is_dealt.ensures) long); parts = tt }

-- src/read.rt:97:1
pub returns : goal.returns
returns c =
    let l = c.args.line.now in
    let e = card_is l c.byte_at-field.ensures c.part_at-deal.ensures.digits c.byte_at-t.ensures c.byte_at-n.ensures c.byte_at-number.ensures c.byte_at-size.ensures c.tail_at-data.ensures.digits in
    let long = eq-eqb _ _ (sym c.count.ensures ∙ c.if-count-padded_size.false ∙ c.padded_size.ensures) in
    let deal = c.part_at-deal.ensures in
    let rest = c.tail_at-data.ensures in
    record {
      told = sym (judged_ok (wanted.Card c.args.mark) (content_of kind.Card l) _ e (sym c.if-not-is_dealt.ensures) long);
      parts = λ i. (deal.place i, deal.digits i) ∷ (rest.place i, rest.digits i) ∷ [];
    }
