-- Lemmas of this crate.
pub mod CardLines
pub mod Coding
pub mod Counting
pub mod Fairness
pub mod Gathering
pub mod Holding
pub mod Inserting
pub mod Lowest
pub mod Phasing
pub mod Putting
pub mod Reading
pub mod Returning
pub mod Taking
pub mod Laying
pub mod Turning
pub mod Unlocking
pub mod Windows
