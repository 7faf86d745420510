-- The lemmas of this crate.
mod Judging
