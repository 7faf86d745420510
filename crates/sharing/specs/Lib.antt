pub mod Groups
pub mod Lent
pub mod Scheme
pub mod Secrecy
pub mod Systems
pub mod Worked
