mod All
pub mod Applied
pub mod AnsweredFromHeldRows
pub mod Awaited
pub mod Beginning
pub mod Dates
pub mod First
pub mod FirstDue
pub mod Handed
pub mod Left
pub mod LowestClass
pub mod Messages
pub mod OneFragment
pub mod OwnRows
pub mod Ranks
mod Results
pub mod Scans
pub mod Shown
pub mod Stepped
pub mod Taking
pub mod Working
