pub mod Accepted
pub mod Calls
pub mod Figure1Loop
pub mod Figure1
pub mod Section2
pub mod Demand2
pub mod Demand3
pub mod Homes
