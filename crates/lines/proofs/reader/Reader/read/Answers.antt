-- What comes of the line is what reading the rest of the text gives.
use Rattle.std.proofs.Common.{◌≡◌, ℕ, ◌+◌, ◌<◌, false, List, ◌++◌, length, drop, Ok, Err, Result, sym, ap, ◌∙◌}
use Rattle.std.proofs.lemmas.List.{drop-drop}
use Rattle.std.proofs.lemmas.Result.{err_from_is_err_and}
use Rattle.lines.specs.Faults.{first}
use Rattle.lines.specs.Lines.{Content, head, lineless, kind_of, content_of, line_faults, unless, content, reading}
use Rattle.lines.specs.Readers.{left, standing}
use Rattle.lines.specs.RoundTrips.{rest}
use Rattle.lines.specs.Writing.{written}
use Rattle.lines.specs.declared.fault.Fault.{Fault}
use Rattle.lines.specs.declared.wanted.Wanted.{Wanted}
use Rattle.lines.proofs.Contents.{reading-head}
use Rattle.lines.proofs.Readings.{read_ok, read_err}
use Rattle.lines.proofs.Rewriting.{rewrites}
use Rattle.lines.proofs.reader.Reader.read.Goals as goal

-- what the line at the head of the rest gives is what reading gives
came : (w : Wanted) (text found line : List ℕ) (x : Result Content Fault) → found ≡ text → (lineless found ≡ false) × (line ≡ head found) × (length line < length found) → x ≡ unless (first (line_faults w line)) (content_of (kind_of w) line) → x ≡ reading w text
came w text found line x r there e =
    e ∙ ap (λ l. unless (first (line_faults w l)) (content_of (kind_of w) l)) there.1 ∙ sym (reading-head w found there.0) ∙ ap (reading w) r

pub returns-in_err-made-clause-bound : goal.returns-in_err-made-clause-bound
returns-in_err-made-clause-bound c =
    let w = c.args.wanted in
    let text = left (standing c.args.self.now) in
    let told = came w text c.rest.result.now c.in_ok-line.line.now (Err c.in_err-made.field-0.0) c.rest.ensures (rw c.in_ok-line.ensures.ok_part at c.head_of.ensures) c.in_err-made.ensures.told in
    let h = err_from_is_err_and c.from_residual-in_err-made.result c.from_residual-in_err-made.ensures.1 in
    rw (h.1, h.2) (read_err w text c.in_err-made.field-0.0 (sym told))

pub returns-clause-kept : goal.returns-clause-kept
returns-clause-kept c =
    let w = c.args.wanted in
    let text = left (standing c.args.self.now) in
    let told = came w text c.rest.result.now c.in_ok-line.line.now (Ok (content c.in_ok-made.made)) c.rest.ensures (rw c.in_ok-line.ensures.ok_part at c.head_of.ensures) c.in_ok-made.ensures.told in
    (read_ok w text (content c.in_ok-made.made) (sym told)).kept

pub returns-clause-again : goal.returns-clause-again
returns-clause-again c =
    let s = c.args.self.now in
    let w = c.args.wanted in
    let text = left (standing s) in
    let found : (lineless c.rest.result.now ≡ false) × (c.in_ok-line.line.now ≡ head c.rest.result.now) × (length c.in_ok-line.line.now < length c.rest.result.now) =
    rw c.in_ok-line.ensures.ok_part at c.head_of.ensures in
    let told = came w text c.rest.result.now c.in_ok-line.line.now (Ok (content c.in_ok-made.made)) c.rest.ensures found c.in_ok-made.ensures.told in
    let line = c.in_ok-line.line.now in
    let is : line ≡ head text = found.1 ∙ ap head c.rest.ensures in
    let on : drop (s.start + (length line + 1)) s.text.now ≡ rest text =
    sym (drop-drop (length line + 1) s.start s.text.now) ∙ ap (λ l. drop (length l + 1) text) is in
    ap (λ l. written (content c.in_ok-made.made) ++ l) on ∙ (rewrites w text (content c.in_ok-made.made) (sym told)).1
