pub mod AddedClasses
pub mod EraOf
pub mod Retired
