pub mod Bytes
pub mod Settled
pub mod Homes
pub mod One
