-- The definitions that the contracts of this crate cite: digits, shapes, readings, writings. Assumes nothing.
pub mod Digits
pub mod Kinds
pub mod Shapes
pub mod Parts
pub mod Faults
pub mod Lines
pub mod Readers
pub mod Writing
pub mod Entries
pub mod RoundTrips
pub mod Worked
