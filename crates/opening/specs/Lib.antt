pub mod Answers
pub mod Lent
pub mod Quorums
pub mod Tables
pub mod Words
