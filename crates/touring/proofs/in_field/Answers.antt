-- A tour that ends well has run what comes after the deal, and that ended well.
use Rattle.std.proofs.Common.{Ok, Err, Result, IfOk}
use Rattle.touring.specs.contracts.in_field.A-FnOnce.{words}
use Rattle.touring.proofs.in_field.Goals as goal

ended : {V C E : Type 0} (called : V → C → Result (Unit {0}) E → Type 0) (r : Result (Unit {0}) E) (v : V) (c : C)
    → called v c r → IfOk r (λ _. (x : V) × (y : C) × called x y (Ok tt))
ended called (Ok u) v c p = (v, c, p)
ended called (Err e) v c p = tt

pub returns : goal.returns
returns g c = ended ((words g.row.F g.row.A g.A.FnOnce).post c.args.after) c.after.result _ _ c.after.ensures
