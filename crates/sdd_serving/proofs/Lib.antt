mod All
pub mod Arrived
pub mod Enough
pub mod Follows
pub mod Freezing
pub mod Held
pub mod Joined
pub mod Keeps
pub mod Leading
pub mod Lies
pub mod Members
pub mod Serves
pub mod Together
pub mod ValuesOfModules
pub mod Uses
pub mod Worked
