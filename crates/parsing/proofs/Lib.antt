pub mod Capacities
pub mod Entries
pub mod Fronts
pub mod Cards
pub mod Files
pub mod Legal
pub mod One
