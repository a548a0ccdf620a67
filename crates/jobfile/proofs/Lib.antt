pub mod Cards
pub mod Files
pub mod Jobs
pub mod One
