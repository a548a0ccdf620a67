pub mod Settled
pub mod Shuffled
