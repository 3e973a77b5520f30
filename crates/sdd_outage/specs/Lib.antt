pub mod Examples
pub mod Needs
pub mod Tasks
pub mod Waiting
