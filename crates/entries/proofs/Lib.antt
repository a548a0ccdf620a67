pub mod Fills
pub mod Marks
pub mod Once
