mod All
pub mod Finding
pub mod Fronts
pub mod Membership
pub mod Opened
pub mod Paging
pub mod ReadingLaws
pub mod Taken
