pub mod Committed
pub mod Copies
pub mod Examples
pub mod Names
pub mod Pending
pub mod Replies
pub mod Report
pub mod Trace
