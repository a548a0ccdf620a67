pub mod Columns
pub mod Targets
pub mod Shares
pub mod Cards
