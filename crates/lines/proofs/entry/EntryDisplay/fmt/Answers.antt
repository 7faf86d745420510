-- Each value by the numbers of its line.
use Rattle.std.proofs.Common.{◌≡◌, ℕ, List, [], ◌∷◌, sym, refl, ap, ◌∙◌}
use Rattle.std.specs.Fmt.{HasWritten}
use Rattle.std.specs.declared.fmt.Formatter.{Formatter}
use Rattle.std.proofs.Output.{has_written_of_eq}
use Rattle.lines.specs.Entries.{entered}
use Rattle.lines.specs.Lines.{Content}
use Rattle.lines.specs.Writing.{written}
use Rattle.lines.specs.declared.entry.Entry.{Entry}
use Rattle.lines.specs.declared.kind.Kind.{Kind}
use Rattle.lines.specs.declared.kind.Kind.TheVariants as kind
use Rattle.lines.proofs.entry.EntryDisplay.fmt.Goals as goal

abbrev line_of : Kind → List ℕ → List ℕ → Content
line_of k fs ns = record { kind = k; fields = fs; numbers = ns }

-- the value at hand is the one whose line was put
put_value : {W : Type 0} (took : W → List ℕ → W → Type 0) {f g : Formatter W} (x y : Entry) (k : Kind) (vs fs ns : List ℕ) → x ≡ y → entered y ≡ line_of k fs ns → vs ≡ fs → HasWritten took f (written (line_of k vs ns)) g → HasWritten took f (written (entered x)) g
put_value took x y k vs fs ns p q e = has_written_of_eq took _ _ _ _ (ap (λ l. written (line_of k l ns)) e ∙ sym (ap written (ap entered p ∙ q)))

-- src/entry.rt:30:5
pub returns-in-Plan-clause-writes : goal.returns-in-Plan-clause-writes
returns-in-Plan-clause-writes g c p ok =
    put_value g.W.Write.write_str_gives _ _ kind.Plan _ _ [] c.in-Plan.is refl
    (λ i. c.from.ensures i ∷ c.from-in-Plan.ensures i ∷ c.from-in-Plan-2.ensures i ∷ [])
    (c.put_line.ensures p ok)

-- src/entry.rt:30:5
pub returns-in-Row-clause-writes : goal.returns-in-Row-clause-writes
returns-in-Row-clause-writes g c p ok = put_value g.W.Write.write_str_gives _ _ kind.Row [] [] _ c.in-Row.is refl refl (c.put_line-in-Row.ensures p ok)

-- src/entry.rt:30:5
pub returns-in-Card-clause-writes : goal.returns-in-Card-clause-writes
returns-in-Card-clause-writes g c p ok =
    put_value g.W.Write.write_str_gives _ _ kind.Card _ _ _ c.in-Card.is refl
    (λ i. c.from-in-Card.ensures i ∷ c.in-Card.mark.number ∷ c.from-in-Card-2.ensures i ∷ c.from-in-Card-3.ensures i ∷ c.from-in-Card-4.ensures i ∷ c.from-in-Card-5.ensures i ∷ [])
    (c.put_line-in-Card.ensures p ok)

-- src/entry.rt:30:5
pub returns-in-Key-clause-writes : goal.returns-in-Key-clause-writes
returns-in-Key-clause-writes g c p ok = put_value g.W.Write.write_str_gives _ _ kind.Key _ _ _ c.in-Key.is refl refl (c.put_line-in-Key.ensures p ok)

-- src/entry.rt:30:5
pub returns-in-Dummy-clause-writes : goal.returns-in-Dummy-clause-writes
returns-in-Dummy-clause-writes g c p ok = put_value g.W.Write.write_str_gives _ _ kind.Dummy [] [] _ c.in-Dummy.is refl refl (c.put_line-in-Dummy.ensures p ok)

-- src/entry.rt:30:5
pub returns-in-Refusal-clause-writes : goal.returns-in-Refusal-clause-writes
returns-in-Refusal-clause-writes g c p ok =
    put_value g.W.Write.write_str_gives _ _ kind.Refusal _ _ [] c.in-Refusal.is refl
    (λ i. c.from-in-Refusal.ensures i ∷ c.from-in-Refusal-2.ensures i ∷ (c.from-in-Refusal-3.ensures ∙ c.unwrap_or-line.ensures) i ∷ [])
    (c.put_line-in-Refusal.ensures p ok)
