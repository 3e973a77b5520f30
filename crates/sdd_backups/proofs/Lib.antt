mod All
pub mod Nothing
pub mod Queues
pub mod Walks
