pub mod Counts
pub mod Modules
pub mod Outbox
pub mod Phases
pub mod Room
