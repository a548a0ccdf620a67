pub mod Numerals
pub mod Tables
pub mod ReadBack
pub mod Forms
pub mod WriteBack
pub mod Calls
