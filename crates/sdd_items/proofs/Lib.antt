mod All
pub mod OneKey
pub mod Ranges
pub mod Writing
