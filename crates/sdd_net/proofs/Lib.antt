mod All
pub mod Calls
pub mod Deliveries
pub mod Directions
pub mod InOrder
pub mod Joined
pub mod Lists
pub mod Matching
pub mod Numbering
pub mod Places
pub mod Queues
pub mod Rises
pub mod Rounds
pub mod SiteLists
pub mod Sound
