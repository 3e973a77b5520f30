mod All
pub mod Commits
pub mod Lists
pub mod Whole
