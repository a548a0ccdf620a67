pub mod Writes
pub mod Made
