-- Row reduction of the laid system tells whether the cards' equations are singular, and solves them.
use Rattle.std.proofs.Common.{◌≡◌, ◌+◌, ◌*◌, length, arith}
use Rattle.opening.specs.Lent.{gathered}
use Rattle.opening.proofs.Systems.{row_solved, row_singular}
use Rattle.opening.proofs.quorum.Quorum.solve_row.Goals as goal

pub returns : goal.returns
returns g c =
    let q = gathered c.args.self.now in
    let laws = g.met.F.Field.lawful in
    let fits = c.args.self.now.fits in
    let s = c.lay_system.new.matrix in
    let long : length s ≡ q.plan.t * (q.plan.t + q.lanes) = omega arith in
    record {
      solved =
          row_solved laws q fits c.args.i s long (λ y l. c.lay_system.ensures y (omega arith)) c.reduce.new.m
          c.reduce.result c.reduce.ensures.reduced;
      singular =
          row_singular laws q fits c.args.i s long (λ y l. c.lay_system.ensures y (omega arith)) c.reduce.new.m
          c.reduce.result c.reduce.ensures.reduced;
    }
