-- A matrix that is reduced in full is regular, and a column without a pivot shows a null vector.
use Rattle.std.proofs.Common.{◌≡◌, ℕ, true, false, List, is_ok, Ok, Err, Result, sym, ◌∙◌, arith}
use Rattle.std.proofs.lemmas.Bool.{true≢false, false≢true}
use Rattle.field.specs.Codes.{Laws, Operations}
use Rattle.linear.specs.Pivots.{entry}
use Rattle.linear.specs.Reductions.{Matrix, Reduced}
use Rattle.linear.specs.declared.reduction.Unreduced.{Unreduced}
use Rattle.linear.specs.declared.reduction.Unreduced.TheVariants.{NoMatrix, NoPivot}
use Rattle.linear.proofs.Crossing.{regular_null}
use Rattle.sharing.specs.Systems.{OnlyZero}
use Rattle.sharing.proofs.decision.sends_only_zero.Goals as goal

module _ {o : Operations} (laws : Laws o) (n : ℕ) (s t : List ℕ) (matrix : Matrix o n n s) where
  decided_yes : (r : Result (Unit {0}) Unreduced) → Reduced o n n s t r → is_ok r ≡ true → OnlyZero o n (entry n s)
  decided_yes (Ok _) reduced is = regular_null laws n (entry n s) reduced.2.regular
  decided_yes (Err e) reduced is = absurd (false≢true is)

  decided_no : (r : Result (Unit {0}) Unreduced) → Reduced o n n s t r → is_ok r ≡ false → OnlyZero o n (entry n s) → ⊥
  decided_no (Ok _) reduced is only = absurd (true≢false is)
  decided_no (Err NoMatrix) reduced is only = reduced.0 matrix
  decided_no (Err (NoPivot k)) reduced is only =
      let stuck = reduced.2 in omega (arith, stuck.one, only stuck.vector stuck.null k stuck.within)

pub returns : goal.returns
returns g c =
    let laws = g.met.F.Field.lawful in
    let reduced = c.reduce.ensures.reduced in
    record {
      yes = λ is. decided_yes laws c.args.size c.args.matrix.now c.reduce.new.m c.requires c.reduce.result reduced (sym c.is_ok.ensures.value ∙ is);
      no = λ is. decided_no laws c.args.size c.args.matrix.now c.reduce.new.m c.requires c.reduce.result reduced (sym c.is_ok.ensures.value ∙ is);
    }
