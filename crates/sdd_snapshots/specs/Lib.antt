pub mod Examples
pub mod Runs
pub mod Thirds
pub mod Theorems
