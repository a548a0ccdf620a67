pub mod Targets
pub mod Pairs
pub mod Planned
