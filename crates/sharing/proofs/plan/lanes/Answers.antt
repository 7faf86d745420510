-- The library rounds up as the definition does.
use Rattle.std.proofs.Common.{◌∙◌, ap₂}
use Rattle.std.specs.Int.{div_ceil}
use Rattle.sharing.proofs.Lanes.{rounded_up}
use Rattle.sharing.proofs.plan.lanes.Goals as goal

pub returns : goal.returns
returns c = c.div_ceil.ensures ∙ ap₂ div_ceil c.from.ensures c.from-2.ensures ∙ rounded_up c.args.len c.args.t c.requires
