-- The lemmas of this crate.
mod Beginning
mod Blocks
mod Chain
mod Heads
mod Inserting
pub mod Joint
mod JointCards
mod JointLines
mod JointSlot
mod JointTexts
pub mod KnownFields
pub mod OnlyCards
pub mod OnlyDealing
mod OnlyLines
pub mod OnlyOpening
mod OnlyPlan
pub mod PlanFirst
mod Turns
mod Unlatching
