-- A place that is filled holds the Cauchy rows.
use Rattle.std.proofs.Common.{◌≡◌, ◌+◌, ◌-◌, ◌*◌, ◌/◌, ◌%◌, length, sym, ◌∙◌, ap₂, subst, arith}
use Rattle.std.proofs.lemmas.List.FromFn.{fill_by_all}
use Rattle.field.specs.Rows.{cauchy, Reciprocals}
use Rattle.field.proofs.Cauchy.{cauchy_reciprocals}
use Rattle.field.proofs.Limits.{within-parts}
use Rattle.field.proofs.rows.cauchy_rows.Goals as goal

pub returns-clause-filled : goal.returns-clause-filled
returns-clause-filled g c =
    let places : length c.loop-i.rows ≡ (c.args.n - c.args.t) * c.args.t =
    c.loop-i.auto.rows ∙ c.if-rows-from.false ∙ ap₂ (λ x y. x * y) c.from.ensures c.from-width.ensures in
    fill_by_all (λ k. cauchy g.F.Field.ops (c.args.t + k / c.args.t) (k % c.args.t)) c.loop-i.rows ((c.args.n - c.args.t) * c.args.t) 0 places
    (λ k h. c.loop-i.invariant k (omega arith))

pub returns-clause-reciprocals : goal.returns-clause-reciprocals
returns-clause-reciprocals g c =
    subst (Reciprocals g.F.Field.ops c.args.t c.args.n) (sym (returns-clause-filled g c))
    (cauchy_reciprocals g.met.F.Field.lawful c.args.t c.args.n (within-parts c.args.t c.args.n (sym c.if-not-within_limits.ensures)).2)
