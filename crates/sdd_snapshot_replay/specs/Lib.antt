pub mod Logs
pub mod Replays
pub mod Examples
