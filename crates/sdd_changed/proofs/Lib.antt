mod All
pub mod Entries
pub mod Chosen
