-- The lemmas of this crate.
mod Deciding
mod Inverses
mod Openings
mod Plans
mod Returns
mod Runs
