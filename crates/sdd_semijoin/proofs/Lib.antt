pub mod Fewest
pub mod Undone
