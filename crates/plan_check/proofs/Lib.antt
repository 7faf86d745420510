pub mod Answering
pub mod Faults
pub mod First
pub mod Ranks
pub mod Searching
