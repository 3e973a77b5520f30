mod All
mod CollectedValues
pub mod Between
pub mod ConditionOn
pub mod Laws
pub mod MadeTable
pub mod Marks
pub mod Parallel
pub mod Ranges
pub mod Tables
