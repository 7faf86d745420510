pub mod Cauchy
pub mod Limits
pub mod Sums
