pub mod Words
pub mod Sets
pub mod Fills
pub mod Trailing
pub mod Nexts
pub mod Walks
