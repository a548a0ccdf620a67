pub mod Writing
pub mod Phasing
pub mod Settled
pub mod Texts
pub mod Jobs
