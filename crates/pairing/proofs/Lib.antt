pub mod Visits
pub mod Pairing
pub mod Planning
pub mod Ready
