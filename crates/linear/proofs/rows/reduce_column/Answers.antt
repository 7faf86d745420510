-- A pivot that is a code other than 0 has a reciprocal; the three steps together are a pivot's step.
use Rattle.std.proofs.Common.{get_or, sym, ap, ◌∙◌, arith}
use Rattle.field.specs.Inverse.{inverse_found, inverse_product}
use Rattle.linear.proofs.Clearing.{stepped_entry}
use Rattle.linear.proofs.rows.reduce_column.Goals as goal

pub returns-in_err-d : goal.returns-in_err-d
returns-in_err-d g c =
    let found = c.in_ok-row.ensures in
    let w = inverse_found g.met.F.Field.lawful _ (c.requires.codes c.in_ok-row.place) found.3 in
    let none = sym c.in_err-d.was ∙ c.reciprocal.ensures ∙ w.1 in
    cc none

pub returns : goal.returns
returns g c =
    let found = c.in_ok-row.ensures in
    let o = g.F.Field.ops in
    let s = c.args.m.now in
    let d = c.in_ok-d.d in
    let inverse = inverse_product o _ d (sym c.in_ok-d.ensures) in
    record {
      row = c.in_ok-row.row;
      reciprocal = d;
      from = found.0;
      below = found.1;
      code = inverse.0;
      product = ap (λ i. o.mul (get_or s i 0) d) (sym found.2) ∙ inverse.1;
      entries =
          stepped_entry o c.args.width c.args.k c.in_ok-row.row d s _ _ c.swap_rows.ensures c.scale_row.ensures c.args.rows _
          (omega arith) c.clear_column.ensures;
    }
