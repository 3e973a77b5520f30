pub mod Members
pub mod Leading
pub mod Pivots
pub mod PlaceSets
pub mod Changing
pub mod KeyRanges
pub mod Settings
pub mod Workloads
