-- The empty sum is 0, and a turn adds the product of the pair that the two slices give.
use Rattle.std.proofs.Common.{ℕ, get_or, sym, ◌∙◌, ap, ap₂}
use Rattle.std.proofs.lemmas.List.{length_push}
use Rattle.std.proofs.lemmas.Slice.Zip.{zip_turn}
use Rattle.field.specs.Codes.{sum}
use Rattle.field.proofs.Sums.{sum_none, sum_more}
use Rattle.field.proofs.products.sum_of_products.Goals as goal

pub loop-a-init : goal.loop-a-init
loop-a-init g c = sym (sum_none g.F.Field.ops _)

pub loop-a-preserved : goal.loop-a-preserved
loop-a-preserved g c =
    let o = g.F.Field.ops in
    let row = c.args.row.now in
    let word = c.args.word.now in
    let product : ℕ → ℕ = λ p. o.mul (get_or row p 0) (get_or word p 0) in
    let pair =
    zip_turn row word c.loop-a.yielded c.into_iter-a-iterator.result c.loop-a.a-iterator c.next.new.self _ (cc) (cc) c.loop-a.yielded_by _
    c.in-Some.is c.next.ensures.steps in
    c.sum-total.ensures
    ∙ ap₂ o.add c.loop-a.invariant (c.product.ensures ∙ ap₂ o.mul (pair.2 0) (pair.3 0))
    ∙ sym (sum_more o _ product)
    ∙ ap (λ n. sum o n product) (sym (length_push c.loop-a.yielded _))
