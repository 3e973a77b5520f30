mod All
pub mod Turns
