pub mod Targets
pub mod Planned
