mod All
pub mod ShortLogs
pub mod Beginnings
pub mod Searching
pub mod Turns
pub mod Kept
pub mod Counterexamples
pub mod Replies
pub mod TriedPairs
