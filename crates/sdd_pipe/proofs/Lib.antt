mod All
pub mod Digests
mod Entries
pub mod Updates
