pub mod Marks
pub mod Once
