pub mod Rounds
pub mod Gathers
pub mod Ending
