mod All
pub mod AtFault
pub mod Counts
pub mod Entries
pub mod FileReads
pub mod Forms
pub mod Scripts
pub mod Submissions
pub mod TextPieces
