pub mod Groups
pub mod Numerals
