pub mod Line
pub mod Queues
pub mod Queued
pub mod Openings
pub mod Ready
