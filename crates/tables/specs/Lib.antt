pub mod Check
pub mod parts
