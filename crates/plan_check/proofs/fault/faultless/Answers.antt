-- The rows have at most 64 numbers, so that an index into them fits 16 bits.
use Rattle.std.proofs.Common.{◌-◌, length, sym, ◌∙◌, ap₂, ◌*◌, arith}
use Rattle.std.proofs.lemmas.Nat.{mul-le}
use Rattle.field.specs.Inverse.{first_passes}
use Rattle.field.proofs.Limits.{within-parts}
use Rattle.plan_check.specs.Faults.{no_code}
use Rattle.plan_check.proofs.fault.faultless.Goals as goal

pub map_or-requires : goal.map_or-requires
map_or-requires g c index is _ _ =
    let plan = c.args.plan.now in
    let limits = within-parts plan.t plan.n (sym c.if-not-within_limits.ensures) in
    let found = first_passes (no_code g.F.Field.ops plan.rows.now) (length plan.rows.now) index (sym c.first_no_code.ensures ∙ is) in
    let most = mul-le (plan.n - plan.t) plan.t 8 8 (omega arith) (omega arith) in
    let same = ap₂ (λ a b. a * b) c.from.ensures c.from-2.ensures in
    omega arith
