pub mod Shows
pub mod NextPhase
pub mod PhaseRuns
pub mod Waiting
pub mod Turns
pub mod Budgeted
