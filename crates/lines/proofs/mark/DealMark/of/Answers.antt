-- One byte after the other; as long as one is missing the number has room for it.
use Rattle.std.proofs.Common.{◌≡◌, ℕ, ◌^◌, ◌<◌, List, Option, Some, None, length, take, sym, ap, ◌∙◌, arith, length-take}
use Rattle.std.proofs.lemmas.Int.Digits.{number_push}
use Rattle.std.proofs.lemmas.Iterator.{YieldsList, YieldsList-from_take}
use Rattle.std.proofs.lemmas.Iterator.Consumers.{YieldsList-from_first, YieldsList-so_far, YieldsList-turn, YieldsList-end}
use Rattle.std.proofs.lemmas.List.{map-id}
use Rattle.std.proofs.ByRecursion.{All-take}
use Rattle.std.specs.Iterator.{Yields, YieldsFirst}
use Rattle.std.specs.Iterator.Adapters.{take_source, take_count, take_steps}
use Rattle.std.specs.declared.iter.Take.{Take}
use Rattle.lines.specs.Digits.{spelled, numeral}
use Rattle.lines.specs.Kinds.{mark_bytes}
use Rattle.lines.specs.Parts.{coming}
use Rattle.lines.specs.declared.part.Numbers.{Numbers}
use Rattle.lines.proofs.Numerals.{under_spelled, numeral_below}
use Rattle.lines.proofs.mark.DealMark.of.Goals as goal

module _ (ds : List ℕ) (s : Take Numbers) (source : coming (take_source s) ≡ spelled ds) (count : take_count s ≡ mark_bytes) (xs : List ℕ) (t : Take Numbers) (y : Yields (take_steps (YieldsFirst coming)) s xs t) where
  -- what is yielded is the front of the field
  road : YieldsList (take_steps (YieldsFirst coming)) (λ x. x) s (take mark_bytes (spelled ds))
  road = YieldsList-from_take mark_bytes (YieldsList-from_first (λ x. x) coming (spelled ds) source) count

  front : xs ≡ take (length xs) (take mark_bytes (spelled ds))
  front = sym (map-id xs) ∙ YieldsList-so_far road xs t y

  -- a further byte has room
  room : (r : Option ℕ) (u : Take Numbers) (x : ℕ) → r ≡ Some x → take_steps (YieldsFirst coming) t r u → numeral xs < 256 ^ 3
  room r u x e h =
      let n = (YieldsList-turn road xs t y r u x e h).0 in
      let all = All-take (λ d. d < 256) (length xs) (take mark_bytes (spelled ds)) (All-take (λ d. d < 256) mark_bytes (spelled ds) (under_spelled ds)) in
      numeral_below xs 3 (rw (← front) at all) (omega (arith, length-take mark_bytes (spelled ds)))

  whole : (r : Option ℕ) (u : Take Numbers) → r ≡ None → take_steps (YieldsFirst coming) t r u → xs ≡ take mark_bytes (spelled ds)
  whole r u e h = sym (map-id xs) ∙ (YieldsList-end road xs t y r u e h).0

pub overflow_mul-number : goal.overflow_mul-number
overflow_mul-number c =
    let it = c.into_iter-byte-iterator.ensures.into_iter_gives in
    let source = ap (λ i. coming (take_source i)) it ∙ ap coming c.take-byte-items.ensures.source ∙ c.numbers.ensures.numbers in
    let count = ap take_count it ∙ c.take-byte-items.ensures.count ∙ c.from.ensures in
    let small = room c.args.part.digits.now c.into_iter-byte-iterator.result source count c.loop-byte.yielded c.loop-byte.byte-iterator c.loop-byte.yielded_by c.next.result c.next.new.self c.in-Some.byte c.in-Some.is c.next.ensures.steps in
    omega (arith, c.loop-byte.invariant, small)

pub overflow_add-number : goal.overflow_add-number
overflow_add-number c =
    let it = c.into_iter-byte-iterator.ensures.into_iter_gives in
    let source = ap (λ i. coming (take_source i)) it ∙ ap coming c.take-byte-items.ensures.source ∙ c.numbers.ensures.numbers in
    let count = ap take_count it ∙ c.take-byte-items.ensures.count ∙ c.from.ensures in
    let small = room c.args.part.digits.now c.into_iter-byte-iterator.result source count c.loop-byte.yielded c.loop-byte.byte-iterator c.loop-byte.yielded_by c.next.result c.next.new.self c.in-Some.byte c.in-Some.is c.next.ensures.steps in
    omega (arith, c.loop-byte.invariant, small, c.from-in-loop-byte.ensures)

pub loop-byte-preserved : goal.loop-byte-preserved
loop-byte-preserved c = omega (arith, c.loop-byte.invariant, number_push 256 c.loop-byte.yielded c.in-Some.byte, c.from-in-loop-byte.ensures)

pub returns : goal.returns
returns c =
    let it = c.into_iter-byte-iterator.ensures.into_iter_gives in
    let source = ap (λ i. coming (take_source i)) it ∙ ap coming c.take-byte-items.ensures.source ∙ c.numbers.ensures.numbers in
    let count = ap take_count it ∙ c.take-byte-items.ensures.count ∙ c.from.ensures in
    c.loop-byte.invariant ∙ ap numeral (whole c.args.part.digits.now c.into_iter-byte-iterator.result source count c.loop-byte.yielded c.loop-byte.byte-iterator c.loop-byte.yielded_by c.next.result c.next.new.self c.in-None.is c.next.ensures.steps)
