pub mod CardBytes
pub mod Flat
pub mod Carries
pub mod Outcomes
