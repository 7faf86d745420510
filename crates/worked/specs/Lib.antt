-- The definitions that the contract of this crate cites: cases worked out by hand. Assumes nothing.
pub mod Cases
