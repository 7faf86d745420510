-- A number below t is picked by its unit row; another is a given row times the word.
use Rattle.std.proofs.Common.{length, ◌∙◌, arith}
use Rattle.std.proofs.lemmas.List.{take_rest}
use Rattle.linear.specs.Systems.{numbers}
use Rattle.linear.proofs.Casts.{cast_unit, cast_cut}
use Rattle.linear.proofs.casting.cast_number.Goals as goal

pub returns-then-c-t : goal.returns-then-c-t
returns-then-c-t g c =
    c.product.ensures
    ∙ cast_unit g.met.F.Field.lawful (length c.args.word.now) c.args.given.now (numbers c.args.word.now) c.args.c
    c.if-c-t.true

pub returns : goal.returns
returns g c =
    c.sum_of_products.ensures
    ∙ cast_cut g.met.F.Field.lawful _ c.args.given.now c.args.word.now c.args.c c.min-from.result c.if-c-t.false (omega arith)
    (take_rest c.args.given.now c.min-from.result)
