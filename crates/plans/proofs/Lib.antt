pub mod Grants
pub mod Plans
pub mod Possible
pub mod Totals
pub mod One
