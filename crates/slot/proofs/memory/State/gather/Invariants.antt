-- The cards that are laid out so far.
use Rattle.std.proofs.Common.{◌≡◌, ◌*◌, length, take}
use Rattle.slot.specs.Holdings.{holding}
use Rattle.slot.specs.Unlocks.{data_held}
use Rattle.slot.proofs.memory.State.gather.Given as goal

abbrev pub invariant-loop-card : goal.invariant-loop-card
invariant-loop-card l = record {
  same : l.numbers.items ≡ l.yielded;
  copied : take (length l.yielded * l.length) l.data ≡ data_held (holding l.self).cards l.yielded;
}
