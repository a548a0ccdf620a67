pub mod Owed
pub mod Kept
