mod All
pub mod Agreeing
pub mod Cells
pub mod Closing
pub mod Enough
pub mod Entries
pub mod Looking
pub mod Marking
pub mod Owning
pub mod Telling
