pub mod Copies
pub mod Factors
pub mod parts
