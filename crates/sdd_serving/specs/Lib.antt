pub mod Following
pub mod Freezing
pub mod Reducing
pub mod Runs
