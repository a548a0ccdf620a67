pub mod Writing
pub mod Digits
pub mod Spelling
pub mod Arrows
pub mod Cards
pub mod Lines
