-- The cards of an opening as the code lends them to its steps. Assumes nothing.
--   gathered   the cards of such a value, with their plan
use Rattle.sharing.specs.Lent.{lent_plan}
use Rattle.opening.specs.Quorums.{Gathered}
use Rattle.opening.specs.declared.quorum.Quorum.{Quorum}

abbrev pub gathered : {F : _} {field : _} → Quorum F field → Gathered
gathered q = record { plan = lent_plan q.plan; numbers = q.numbers.now; «data» = q.«data».now; lanes = q.lanes }
