-- The cards of a deal as lines of text: each is read as it was written, and a slot takes it. Assumes nothing.
--   Source     what the cards of a deal are written from: a sound plan, L, a store and a mark
--   heading    the heading of every card of the deal
--   numbers    the numbers of a card
--   line       the line of a card
use Rattle.std.proofs.Common.{◌≡◌, ℕ, ◌*◌, ◌^◌, ◌<◌, ◌≤◌, Bool, true, false, not, eqb, ltb, leb, List, [], ◌∷◌, ◌++◌, length, is_some, Some, None, Option, unwrap_or, sym, refl, ap, ◌∙◌, subst, append-nil, arith}
use Rattle.std.proofs.ByRecursion.{All-from_get_or}
use Rattle.std.proofs.lemmas.Bool.{and_from, eq-eqb, le-leb, lt-ltb}
use Rattle.field.specs.Codes.{Laws, Operations}
use Rattle.sharing.specs.Scheme.{Codes, Plan, Sound, card, lanes}
use Rattle.sharing.proofs.Stores.{lanes_enough, length_card}
use Rattle.opening.proofs.Deals.{data_codes}
use Rattle.plan_check.proofs.Faults.{none_no_code}
use Rattle.lines.specs.Lines.{Content, planned, sized}
use Rattle.lines.specs.RoundTrips.{Fitting}
use Rattle.lines.specs.Writing.{written}
use Rattle.lines.specs.declared.wanted.Wanted.TheVariants as wanted
use Rattle.slot.specs.Holdings.{Holding, within_limits}
use Rattle.slot.specs.Inserts.{card_table, differs, held_at, same_heading}
use Rattle.slot.specs.Refusals.{foremost}
use Rattle.slot.specs.declared.phase.Heading.{Heading}
use Rattle.slot.specs.declared.refusal.SlotRefusal.{SlotRefusal}
use Rattle.slot.proofs.Holding.{card_fits}
use Rattle.programs.specs.Gathering.{CardHead}
use Rattle.programs.specs.Texts.{card_line}
use Rattle.programs.proofs.JointLines.{Modest}
use Rattle.programs.proofs.OnlyLines.{Reads, reads_written}

-- nothing of a table of three lines holds
none_of_three : (a b c : Bool) (x y z : SlotRefusal) → a ≡ false → b ≡ false → c ≡ false → foremost ((a, x) ∷ (b, y) ∷ (c, z) ∷ []) ≡ None
none_of_three a b c x y z e f g = λ i. foremost ((e i, x) ∷ (f i, y) ∷ (g i, z) ∷ [])

-- a heading is the same as itself
same_self : (h : Heading) → same_heading h h ≡ true
same_self h =
    and_from (eqb h.mark.number h.mark.number) _ (eq-eqb h.mark.number h.mark.number refl)
    (and_from (eqb h.t h.t) _ (eq-eqb h.t h.t refl)
    (and_from (eqb h.n h.n) _ (eq-eqb h.n h.n refl) (eq-eqb h.size h.size refl)))

never_differs : (f : Option Heading) (h : Heading) → unwrap_or f h ≡ h → differs f h ≡ false
never_differs None h e = refl
never_differs (Some g) h e = ap (λ x. not (same_heading x h)) e ∙ ap not (same_self h)

-- t and n are those of the plan; the size is L
pub record Source (o : Operations) (p : Plan) : Type 0 where
  pub laws : Laws o
  pub sound : Sound o p
  pub size : ℕ
  pub some : 1 ≤ size
  pub most : size ≤ 64
  pub store : List ℕ
  pub mark : ℕ
  pub four : mark < 256 ^ 4

module _ {o : Operations} {p : Plan} (c : Source o p) where
  abbrev pub heading : Heading
  heading = record { mark = record { number = c.mark }; t = p.t; n = p.n; size = c.size }

  abbrev pub numbers : ℕ → List ℕ
  numbers j = card o p (lanes p.t c.size) c.store j

  abbrev pub line : ℕ → Content
  line j = card_line o.mark c.mark p.t p.n j c.size (numbers j)

  plan_limits : planned p.t p.n ≡ true
  plan_limits =
      and_from (leb 2 p.t) _ (le-leb 2 p.t c.sound.least)
      (and_from (leb p.t p.n) _ (le-leb p.t p.n c.sound.ordered) (le-leb p.n 8 c.sound.most))

  size_limits : sized c.size ≡ true
  size_limits = and_from (leb 1 c.size) (leb c.size 64) (le-leb 1 c.size c.some) (le-leb c.size 64 c.most)

  limits : within_limits (Some heading) ≡ true
  limits = and_from (planned p.t p.n) (sized c.size) plan_limits size_limits

  long : (j : ℕ) → length (numbers j) ≡ p.t * lanes p.t c.size
  long j = length_card o p (lanes p.t c.size) c.store j

  codes : (j : ℕ) → Codes o (numbers j)
  codes j = subst (Codes o) (append-nil (numbers j)) (data_codes c.laws p (lanes p.t c.size) c.store (j ∷ []))

  pub modest : (j : ℕ) → Modest (line j)
  modest j = record {
    bytes = All-from_get_or (λ d. d < 256) (numbers j) 0 (λ i h. omega (arith, codes j i h, c.laws.size_most));
    few = omega (arith, long j, card_fits heading limits);
  }

  -- a card is read as it was written
  module _ (j : ℕ) (below : j < p.n) where
    fits : Fitting (line j)
    fits = record {
      fields = (c.laws.mark_byte, (c.four, (omega (arith, c.sound.ordered, c.sound.most), (omega (arith, c.sound.most), (omega (arith, below, c.sound.most), (omega (arith, c.most), tt))))));
      numbers = (modest j).bytes;
      some = sym (lt-ltb 0 (length (numbers j)) (omega (arith, long j, c.some, lanes_enough p.t c.size (omega (arith, c.sound.least)))));
    }

    reads : (more : List ℕ) → Reads (wanted.Card o.mark) (written (line j) ++ more) (line j) more
    reads more =
        reads_written (wanted.Card o.mark) (written (line j) ++ more) (line j) more refl refl fits
        (and_from (eqb o.mark o.mark) _ (eq-eqb o.mark o.mark refl)
        (and_from (planned p.t p.n) _ plan_limits (and_from (ltb j p.n) (sized c.size) (lt-ltb j p.n below) size_limits)))
        (eq-eqb (length (numbers j)) (p.t * lanes p.t c.size) (long j))

    pub card_head : (text more : List ℕ) → text ≡ written (line j) ++ more → CardHead o (line j) text more
    card_head text more e = subst (λ x. CardHead o (line j) x more) (sym e) (record { reads = (reads more).line; is = refl })

    -- and a slot takes it, unless it holds cards of another deal, or this card
    pub passes : (u : Holding) → unwrap_or u.first heading ≡ heading → held_at u j ≡ None → foremost (card_table o u (line j)) ≡ None
    passes u first free =
        none_of_three _ _ _ _ _ _ (ap is_some (none_no_code o (numbers j) (codes j))) (never_differs u.first heading first) (ap is_some free)
