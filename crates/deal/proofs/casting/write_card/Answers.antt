-- Each turn lays the cast of one word, and the numbers together are the card.
use Rattle.std.proofs.Common.{◌≡◌, ℕ, ◌+◌, ◌*◌, ◌/◌, ◌%◌, ◌<◌, ◌≤◌, List, length, get_or, set, take, sym, ap, ◌∙◌, subst, arith}
use Rattle.std.proofs.lemmas.List.{length-take-le, get_or-take}
use Rattle.std.proofs.lemmas.List.Edits.{fill_by_more}
use Rattle.std.proofs.lemmas.List.FromFn.{fill_by_all}
use Rattle.field.specs.Codes.{Operations}
use Rattle.linear.specs.Casting.{row, cast}
use Rattle.linear.specs.Systems.{numbers}
use Rattle.linear.proofs.Coded.{sum_cong}
use Rattle.sharing.specs.Scheme.{plan_of, word, card}
use Rattle.deal.proofs.casting.write_card.Goals as goal

-- a word that stands at the front of a list
cast_front : (o : Operations) (t : ℕ) (rows xs : List ℕ) (number : ℕ → ℕ) (c v : ℕ) → t ≤ length xs
    → ((p : ℕ) → p < t → get_or xs p 0 ≡ number p) → v ≡ cast o (length (take t xs)) rows (numbers (take t xs)) c → v ≡ cast o t rows number c
cast_front o t rows xs number c v le same is =
    is ∙ ap (λ k. cast o k rows (numbers (take t xs)) c) (length-take-le t xs le)
    ∙ sum_cong o t (λ p. o.mul (row t rows c p) (get_or (take t xs) p 0)) (λ p. o.mul (row t rows c p) (number p))
    (λ p lt. ap (λ v. o.mul (row t rows c p) v) (get_or-take t xs p 0 lt ∙ same p lt))

pub loop-x-preserved : goal.loop-x-preserved
loop-x-preserved g c k h =
    let o = g.F.Field.ops in
    let s = c.args.store.now in
    let rows = c.args.plan.now.rows.now in
    let xs = c.loop-x.place in
    let x = c.loop-x.x in
    let number : ℕ → ℕ = λ x. cast o s.t rows (word o s.t s.lanes s.numbers.now (x / s.lanes) (x % s.lanes)) ((c.args.j + x / s.lanes) % c.args.plan.now.n) in
    let here : c.cast_number.result ≡ number x =
    cast_front o s.t rows c.word-word.result (word o s.t s.lanes s.numbers.now (x / s.lanes) (x % s.lanes)) ((c.args.j + x / s.lanes) % c.args.plan.now.n)
    c.cast_number.result (omega arith) c.word-word.ensures c.cast_number.ensures in
    subst (λ v. get_or (set xs x v) k 0 ≡ number k) (sym here) (fill_by_more number xs x 0 (omega arith) c.loop-x.invariant k h)

pub returns : goal.returns
returns g c =
    let o = g.F.Field.ops in
    let p = c.args.plan.now in
    let s = c.args.store.now in
    subst (λ t. c.loop-x.place ≡ card o (plan_of t p.n p.rows.now) s.lanes s.numbers.now c.args.j) c.requires.store.0
    (fill_by_all (λ x. cast o s.t p.rows.now (word o s.t s.lanes s.numbers.now (x / s.lanes) (x % s.lanes)) ((c.args.j + x / s.lanes) % p.n)) c.loop-x.place (s.t * s.lanes) 0
    (omega arith) (λ k lt. c.loop-x.invariant k (omega arith)))
