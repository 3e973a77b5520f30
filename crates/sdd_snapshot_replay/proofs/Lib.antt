mod All
pub mod Begun
pub mod Databases
pub mod Fitting
pub mod Listed
pub mod Replays
pub mod Sessions
pub mod Sorting
