-- What the solved or singular systems say of the cards is the answer.
use Rattle.std.proofs.Common.{◌≡◌, ℕ, true, false, length, is_ok, Some, sym, refl, ap, ◌∙◌, inl, inr, arith}
use Rattle.field.specs.Refusals.{refused}
use Rattle.sharing.specs.Groups.{bits}
use Rattle.opening.specs.Lent.{gathered}
use Rattle.opening.proofs.Gathering.{group, bits_group}
use Rattle.opening.proofs.Settling.{on_ok, on_err, group_of, shut_of_singular, opened_answer}
use Rattle.opening.proofs.quorum.Quorum.settle.Goals as goal

pub returns-in_err-map_err : goal.returns-in_err-map_err
returns-in_err-map_err g c =
    let q = gathered c.args.self.now in
    let laws = g.met.F.Field.lawful in
    let fits = c.args.self.now.fits in
    let failed : is_ok c.solve_rows.result ≡ false = sym c.map_err.ensures.variant ∙ ap is_ok c.in_err-map_err.was in
    let row = on_err c.solve_rows.result failed c.solve_rows.ensures.singular in
    let named : refused c.from_residual.result ≡ Some (0x15, bits q.numbers) = grind arith in
    inl
    (record {
      group = group q.plan.n q.numbers;
      of_cards = group_of laws q fits;
      shut = shut_of_singular laws q fits row.0 row.1 row.2;
      refusal = named ∙ ap (λ (b : ℕ). Some (0x15, b)) (bits_group q.plan.n q.numbers fits.below fits.different);
      same = refl;
    })

pub returns : goal.returns
returns g c =
    let q = gathered c.args.self.now in
    let solved : is_ok c.solve_rows.result ≡ true = sym c.map_err.ensures.variant ∙ ap is_ok c.in_ok-map_err.was in
    let summed = on_ok c.solve_rows.result solved c.solve_rows.ensures.summed in
    inr
    (opened_answer g.met.F.Field.lawful q c.args.self.now.fits c.solve_rows.new.sums summed (length c.args.key.now)
    c.requires.pieces c.args.key.now c.hand_over.new.key c.hand_over.result (omega arith) c.hand_over.ensures.refusal
    c.hand_over.ensures.place)
