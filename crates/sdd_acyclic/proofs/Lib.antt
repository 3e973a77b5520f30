mod All
pub mod Apart
pub mod Barriers
pub mod BlocksBy
pub mod ByRank
pub mod Covers
pub mod Crossings
pub mod DecidedLinks
pub mod Deeds
pub mod EachTable
pub mod Levels
pub mod Orderly
pub mod Over
pub mod Splits
pub mod Theorems
pub mod Tours
pub mod Walks
pub mod Worked
