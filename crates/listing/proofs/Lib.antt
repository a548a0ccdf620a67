pub mod Enough
pub mod Refusals
pub mod Handing
pub mod Files
pub mod One
