-- The power 95 is the reciprocal, and none is answered where there is none.
use Rattle.std.proofs.Common.{Some, sym, ap, ◌∙◌, inl, inr, ⊎_elim, arith}
use Rattle.field.specs.Modulo97Lemmas.{power_reciprocal, no_reciprocal}
use Rattle.field.proofs.gf97.Gf97Field.reciprocal.Goals as goal

pub returns-then-a-ge-SIZE : goal.returns-then-a-ge-SIZE
returns-then-a-ge-SIZE c = sym (no_reciprocal c.args.a (⊎_elim inl (λ h. inr h.1) c.if-a-ge-SIZE.either))

pub returns-else-a-ge-SIZE : goal.returns-else-a-ge-SIZE
returns-else-a-ge-SIZE c = ap Some (cc) ∙ sym (power_reciprocal c.args.a (omega arith) (omega arith))
