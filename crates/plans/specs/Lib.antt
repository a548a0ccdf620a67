pub mod Plan
pub mod Allowed
