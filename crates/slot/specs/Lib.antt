pub mod Cards
pub mod Holdings
pub mod Inserts
pub mod Phases
pub mod Refusals
pub mod States
pub mod Unlocks
