pub mod Settling
pub mod Shuffles
