pub mod Bank
pub mod Draws
pub mod Examples
pub mod Files
pub mod Statements
pub mod Summary
pub mod Turns
