pub mod Faults
pub mod Sharings
pub mod Calls
pub mod History
pub mod Onlooker
pub mod CardSet
