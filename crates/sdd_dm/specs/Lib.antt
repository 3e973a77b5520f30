pub mod Heads
pub mod Ranks
pub mod Represents
pub mod Starts
pub mod State
pub mod Waiting
