pub mod Engine
pub mod Budgeted
pub mod Turns
