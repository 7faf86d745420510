-- Each turn of the loop scales one number of the row.
use Rattle.std.proofs.Common.{◌<◌, eqb, sym, refl, ap, ◌∙◌, arith}
use Rattle.std.proofs.lemmas.Bool.{eq-eqb, ne_eqb, cond-true, cond-false}
use Rattle.linear.specs.Pivots.{entry}
use Rattle.linear.proofs.Entries.{between_old, between_write}
use Rattle.linear.proofs.rows.scale_row.Goals as goal

pub loop-c-preserved : goal.loop-c-preserved
loop-c-preserved g c =
    let o = g.F.Field.ops in
    let w = c.args.width in
    let k = c.args.k in
    let s = c.args.m.now in
    let t = c.loop-c.m in
    let x = c.loop-c.c in
    let hx : x < w = omega arith in
    between_write w k s _ x k _ t c.loop-c.invariant (omega arith) hx (omega arith)
    (c.product.ensures
    ∙ ap (o.mul c.args.d) (between_old w k s _ x t c.loop-c.invariant k x (omega arith) (omega arith) hx)
    ∙ sym (cond-true (eqb k k) _ (entry w s k x) (eq-eqb k k refl)))
    (λ r a. cond-false (eqb r k) _ (entry w s r x) (ne_eqb r k a))
