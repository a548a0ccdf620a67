pub mod Targets
pub mod Columns
pub mod Shares
pub mod GrantCard
pub mod Cards
pub mod Openings
pub mod Pairs
