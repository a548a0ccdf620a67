pub mod Numeral
pub mod parts
