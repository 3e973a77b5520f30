mod All
pub mod Answering
pub mod Changing
pub mod Chosen
pub mod Near
pub mod Ranges
