pub mod Owed
pub mod Owing
pub mod Paying
