pub mod Gathering
pub mod WholeRun
pub mod One
