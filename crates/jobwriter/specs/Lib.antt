pub mod Writing
pub mod parts
