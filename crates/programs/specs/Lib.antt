-- The definitions that the contracts of this crate cite. Assumes nothing.
pub mod Answers
pub mod Dealing
pub mod Gathering
pub mod Joint
pub mod Keys
pub mod Opening
pub mod Planning
pub mod Progress
pub mod Texts
pub mod Vetting
