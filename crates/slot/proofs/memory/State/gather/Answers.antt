-- The cards come lowest first, and each is laid out behind those before it.
use Rattle.std.proofs.Common.{◌≡◌, ℕ, ◌+◌, ◌-◌, ◌*◌, ◌<◌, ◌≤◌, [], ◌∷◌, ◌++◌, length, take, drop, Some, sym, ap, ◌∙◌, arith, rules, tests, length-drop, length-take}
use Rattle.std.proofs.lemmas.Nat.{mul-le}
use Rattle.slot.specs.Holdings.{card_length, holding}
use Rattle.slot.specs.Phases.{first_heading}
use Rattle.slot.specs.States.{laid}
use Rattle.slot.specs.Unlocks.{data_held}
use Rattle.slot.specs.declared.memory.State.{State}
use Rattle.slot.proofs.Gathering.{data_more}
use Rattle.slot.proofs.Laying.{next_card, all_cards}
use Rattle.slot.proofs.Holding.{length_fits}
use Rattle.slot.proofs.Putting.{held-numbers}
use Rattle.slot.proofs.memory.State.gather.Goals as goal

-- a card's numbers, as the code reads them in the memory
card_part : (s : State) (from len : ℕ) → len ≡ card_length (first_heading s.phase)
    → take ((from + len) - from) (drop from s.memory) ≡ take (card_length (first_heading s.phase)) (drop from s.memory)
card_part s from len e = ap (λ n. take n (drop from s.memory)) (omega (arith, e))

part_length : (s : State) (from len : ℕ) → from + len ≤ length s.memory → length (take ((from + len) - from) (drop from s.memory)) ≡ len
part_length s from len fits = omega (arith, length-take ((from + len) - from) (drop from s.memory), length-drop from s.memory)

-- there is room for one card more
room : (place len : ℕ) → place < 8 → len ≤ 70 → place * len + len ≤ 560
room place len few short = omega (arith, mul-le place len 7 70 (omega arith) short)

pub overflow_mul-len : goal.overflow_mul-len
overflow_mul-len c =
    let s = c.args.self.now in
    let next =
    next_card s (omega arith) c.args.t (cc) (cc) (λ x b q k. search (rules, tests)) c.loop-card.yielded c.loop-card.card-iterator c.next.new.self
    c.next.result c.in-Some.card c.loop-card.yielded_by c.in-Some.is c.next.ensures.steps in
    let few : c.len.result < 8 = omega (arith, next.few, ap length c.loop-card.invariant.same, c.len.ensures.value) in
    omega (arith, room c.len.result c.card_length-length.result few (omega (arith, length_fits (first_heading s.phase) c.requires.limits, c.card_length-length.ensures)))

pub overflow_add-from : goal.overflow_add-from
overflow_add-from c =
    let s = c.args.self.now in
    let next =
    next_card s (omega arith) c.args.t (cc) (cc) (λ x b q k. search (rules, tests)) c.loop-card.yielded c.loop-card.card-iterator c.next.new.self
    c.next.result c.in-Some.card c.loop-card.yielded_by c.in-Some.is c.next.ensures.steps in
    omega (arith, next.small, length_fits (first_heading s.phase) c.requires.limits, c.card_length-length.ensures, c.from-from.ensures)

pub slice_bounds-copy-end : goal.slice_bounds-copy-end
slice_bounds-copy-end c =
    let s = c.args.self.now in
    let next =
    next_card s (omega arith) c.args.t (cc) (cc) (λ x b q k. search (rules, tests)) c.loop-card.yielded c.loop-card.card-iterator c.next.new.self
    c.next.result c.in-Some.card c.loop-card.yielded_by c.in-Some.is c.next.ensures.steps in
    omega (arith, next.small, length_fits (first_heading s.phase) c.requires.limits, c.card_length-length.ensures, c.from-from.ensures)

pub copy-requires : goal.copy-requires
copy-requires c =
    let s = c.args.self.now in
    let len = c.card_length-length.result in
    let next =
    next_card s (omega arith) c.args.t (cc) (cc) (λ x b q k. search (rules, tests)) c.loop-card.yielded c.loop-card.card-iterator c.next.new.self
    c.next.result c.in-Some.card c.loop-card.yielded_by c.in-Some.is c.next.ensures.steps in
    let short : len ≤ 70 = omega (arith, length_fits (first_heading s.phase) c.requires.limits, c.card_length-length.ensures) in
    let part = part_length s (70 * c.from-from.result) len (omega (arith, next.small, c.from-from.ensures)) in
    let few : c.len.result < 8 = omega (arith, next.few, ap length c.loop-card.invariant.same, c.len.ensures.value) in
    omega (arith, part, room c.len.result len few short, c.requires.room)

pub push-requires : goal.push-requires
push-requires c =
    let s = c.args.self.now in
    let next =
    next_card s (omega arith) c.args.t (cc) (cc) (λ x b q k. search (rules, tests)) c.loop-card.yielded c.loop-card.card-iterator c.next.new.self
    c.next.result c.in-Some.card c.loop-card.yielded_by c.in-Some.is c.next.ensures.steps in
    omega (arith, next.few, ap length c.loop-card.invariant.same)

pub loop-card-preserved : goal.loop-card-preserved
loop-card-preserved c =
    let s = c.args.self.now in
    let cards = (holding s).cards in
    let len = c.card_length-length.result in
    let from = 70 * c.from-from.result in
    let rest = c.loop-card.data in
    let xs = c.loop-card.yielded in
    let card = c.in-Some.card in
    let next =
    next_card s (omega arith) c.args.t (cc) (cc) (λ x b q k. search (rules, tests)) c.loop-card.yielded c.loop-card.card-iterator c.next.new.self
    c.next.result c.in-Some.card c.loop-card.yielded_by c.in-Some.is c.next.ensures.steps in
    let short : len ≤ 70 = omega (arith, length_fits (first_heading s.phase) c.requires.limits, c.card_length-length.ensures) in
    let long = part_length s from len (omega (arith, next.small, c.from-from.ensures)) in
    let ns = take ((from + len) - from) (drop from s.memory) in
    let here = held-numbers s card next.small next.on
    ∙ ap (λ k. Some (take (card_length (first_heading s.phase)) (drop (70 * k) s.memory))) (sym c.from-from.ensures)
    ∙ ap Some (sym (card_part s from len c.card_length-length.ensures)) in
    let fits = room (length xs) len next.few short in
    let place = c.len.ensures.value ∙ ap length c.loop-card.invariant.same in
    let more = data_more cards xs len card ns rest c.loop-card.invariant.copied here long (omega (arith, fits, long, c.requires.room)) in
    record {
      same = c.push.ensures.items ∙ ap (λ l. l ++ card ∷ []) c.loop-card.invariant.same;
      copied = ap (take (length (xs ++ card ∷ []) * len)) (c.copy.ensures ∙ ap (λ k. laid rest (k * len) ns) place) ∙ more;
    }

pub returns : goal.returns
returns c =
    let s = c.args.self.now in
    let cards = (holding s).cards in
    let done = all_cards s (omega arith) c.args.t (cc) (cc) (λ x b q k. search (rules, tests)) c.loop-card.yielded c.loop-card.card-iterator c.next.new.self
    c.next.result c.loop-card.yielded_by c.in-None.is c.next.ensures.steps in
    record {
      numbers = c.loop-card.invariant.same ∙ done;
      copied = ap (λ l. take (length l * card_length (first_heading s.phase)) c.loop-card.data) (sym done)
          ∙ ap (λ n. take (length c.loop-card.yielded * n) c.loop-card.data) (sym c.card_length-length.ensures)
          ∙ c.loop-card.invariant.copied
          ∙ ap (data_held cards) done;
    }
