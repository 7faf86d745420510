-- The power 254 of a byte other than 0 is its reciprocal.
use Rattle.std.proofs.Common.{◌≡◌, ℕ, ◌<◌, Some, sym, refl, ap, ◌∙◌, add-one, arith}
use Rattle.field.specs.Codes.{inverse}
use Rattle.field.specs.Polynomials.{gf256}
use Rattle.field.specs.Bytes.{by, square, raised, raised-code, reciprocal, by_code, by_reciprocal, product_bytes, gf256_laws}
use Rattle.field.specs.Inverse.{inverse_is, inverse_zero}
use Rattle.field.proofs.gf256.Gf256Field.reciprocal.Goals as goal

-- what the program squares is the power so far
squared : (k a power result : ℕ) → power ≡ raised k a → result ≡ gf256.mul power power → result ≡ square (raised k a)
squared k a power result e r =
    r ∙ ap (λ x. gf256.mul x x) e ∙ product_bytes (raised k a) (raised k a) (raised-code k a) (raised-code k a)

pub loop-init : goal.loop-init
unfolding raised
loop-init c = refl

pub loop-preserved : goal.loop-preserved
unfolding raised
loop-preserved c =
    c.product-power.ensures.value
    ∙ product_bytes c.product.result c.args.a c.product.type_inv (omega arith)
    ∙ ap (λ x. by x c.args.a) (squared c.loop.counter c.args.a c.loop.power c.product.result c.loop.invariant c.product.ensures.value)
    ∙ sym (ap (λ k. raised k c.args.a) (add-one c.loop.counter))

pub returns-then-a-eq0 : goal.returns-then-a-eq0
returns-then-a-eq0 c = sym (ap (inverse gf256) c.if-a-eq0.true ∙ inverse_zero gf256_laws)

pub returns-else-a-eq0 : goal.returns-else-a-eq0
returns-else-a-eq0 c =
    ap Some (squared 7 c.args.a c.loop.power c.product-inverse.result (c.loop.invariant ∙ ap (λ k. raised k c.args.a) seven) c.product-inverse.ensures.value)
    ∙ sym (inverse_is gf256_laws c.args.a (reciprocal c.args.a) byte code
    (product_bytes c.args.a (reciprocal c.args.a) byte code ∙ by_reciprocal c.args.a byte c.if-a-eq0.false))
  where
    seven : c.loop.counter ≡ 7
    seven = omega arith

    byte : c.args.a < 256
    byte = omega arith

    code : reciprocal c.args.a < 256
    code = by_code (raised 7 c.args.a) (raised 7 c.args.a) (raised-code 7 c.args.a)
