pub mod ShortRuns
pub mod Orders
pub mod Found
pub mod Pairs
pub mod Tried
pub mod Examples
