pub mod File
pub mod Answers
pub mod parts
