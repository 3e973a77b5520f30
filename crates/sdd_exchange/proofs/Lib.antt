mod All
pub mod Addressed
pub mod Counting
pub mod Going
pub mod Reading
pub mod Room
pub mod Small
