-- A byte of the data belongs to one of the t cards.
use Rattle.std.proofs.Common.{◌*◌, ◌<◌, length, sym, ap, arith}
use Rattle.std.proofs.lemmas.Nat.{div_below}
use Rattle.field.specs.Inverse.{first_passes}
use Rattle.plan_check.specs.Faults.{no_code}
use Rattle.sharing.proofs.Stores.{lanes_enough}
use Rattle.opening.proofs.table.fit_data.Goals as goal

pub place_in_data-requires-clause-within : goal.place_in_data-requires-clause-within
place_in_data-requires-clause-within g c =
    let «data» = c.args.data.now in
    let found = first_passes (no_code g.F.Field.ops «data») (length «data») c.in-Some.index (sym c.in-Some.ensures) in
    let same = ap (λ b. c.args.t * b) c.lanes.ensures in
    let enough = lanes_enough c.args.t c.args.key_length c.requires.least in
    let product = ap (λ k. k * (c.args.t * c.lanes.result)) c.requires.count in
    let inside : c.in-Some.index < length c.args.cards.now * (c.args.t * c.lanes.result) = omega arith in
    div_below c.in-Some.index (c.args.t * c.lanes.result) (length c.args.cards.now) (omega arith) inside
