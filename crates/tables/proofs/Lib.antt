pub mod Fills
pub mod Tables
pub mod Targets
pub mod One
pub mod Refusals
pub mod Capacities
