pub mod AwayBy
pub mod Writing
pub mod Tallied
pub mod Progress
pub mod Copied
pub mod Accepted
pub mod Making
