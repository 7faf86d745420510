-- Each turn of the loop is a pivot's step, or finds a column without a pivot.
use Rattle.std.proofs.Common.{◌≡◌, ℕ, Some, None, Err, sym, subst, arith, rules}
use Rattle.linear.specs.Reductions.{Kept}
use Rattle.linear.specs.declared.reduction.Unreduced.TheVariants.{NoPivot}
use Rattle.linear.proofs.Crossing.{alternative_stands}
use Rattle.linear.proofs.Reducing.{Reducing, reducing_none, reducing_more, matrix_more, reducing_kept, reducing_stuck, reducing_full}
use Rattle.linear.proofs.reduction.reduce.Goals as goal

pub returns-then-not-is_matrix-clause-alternative : goal.returns-then-not-is_matrix-clause-alternative
returns-then-not-is_matrix-clause-alternative g c = alternative_stands g.met.F.Field.lawful

pub loop-k-init : goal.loop-k-init
loop-k-init g c =
    (c.is_matrix.ensures.yes c.if-not-is_matrix.false, reducing_none g.met.F.Field.lawful c.args.rows c.args.width c.args.m.now)

pub returns-in_err-ok_or : goal.returns-in_err-ok_or
returns-in_err-ok_or g c =
    let laws = g.met.F.Field.lawful in
    let m = c.loop-k.invariant.0 in
    let none : c.reduce_column.result ≡ None = search rules in
    let told : c.from_residual.result ≡ Err (NoPivot c.loop-k.k) = search rules in
    let stopped = rw none at c.reduce_column.ensures in
    record {
      reduced = rw told (
        c.is_matrix.ensures.yes c.if-not-is_matrix.false,
        subst (Kept g.F.Field.ops c.args.rows c.args.width c.loop-k.k c.args.m.now) (sym stopped.1)
            (reducing_kept laws c.args.rows c.args.width c.loop-k.k c.args.m.now c.loop-k.m m c.loop-k.invariant.1 (omega arith)
            m.square),
        reducing_stuck laws c.args.rows c.args.width c.loop-k.k c.args.m.now c.loop-k.m m.square c.loop-k-test.true
            c.loop-k.invariant.1 stopped.0,
      );
      alternative = alternative_stands laws;
    }

pub loop-k-preserved : goal.loop-k-preserved
loop-k-preserved g c =
    let laws = g.met.F.Field.lawful in
    let m = c.loop-k.invariant.0 in
    let now = c.loop-k.invariant.1 in
    let some : c.reduce_column.result ≡ Some tt = search rules in
    let step = rw some at c.reduce_column.ensures in (
      matrix_more laws c.args.rows c.args.width c.loop-k.k c.args.m.now c.loop-k.m _ m now step c.loop-k-test.true (omega arith),
      reducing_more laws c.args.rows c.args.width c.loop-k.k c.args.m.now c.loop-k.m _ m now step c.loop-k-test.true,
    )

pub returns : goal.returns
returns g c =
    let laws = g.met.F.Field.lawful in
    let ms = c.is_matrix.ensures.yes c.if-not-is_matrix.false in
    let mt = c.loop-k.invariant.0 in
    let P : ℕ → Type 0 = λ k. Reducing laws c.args.rows c.args.width k c.args.m.now c.loop-k.m in
    let all : c.loop-k.k ≡ c.args.rows = omega arith in
    let now = subst P all c.loop-k.invariant.1 in
    record {
      reduced = (
        ms,
        reducing_kept laws c.args.rows c.args.width c.args.rows c.args.m.now c.loop-k.m mt now (omega arith) ms.square,
        reducing_full laws c.args.rows c.args.width c.args.m.now c.loop-k.m ms mt now,
      );
      alternative = alternative_stands laws;
    }
