-- Lemmas of this crate.
pub mod Contents
mod Cuts
pub mod Fields
pub mod Firsts
mod Leads
pub mod Numerals
pub mod Readings
pub mod Rereading
pub mod Rewriting
pub mod Skipping
pub mod Spelling
pub mod Standing
mod Texts
