pub mod Lookups
pub mod Slots
pub mod One
