pub mod Systems
pub mod Pivots
pub mod Reductions
pub mod Casting
