mod Tables
mod Tallies
mod Accounts
mod Groups
mod Onlooker
pub mod Faults
pub mod Stores
mod Laws
mod Cards
mod Places
