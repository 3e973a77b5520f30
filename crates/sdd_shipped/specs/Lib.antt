pub mod Members
pub mod Serves
pub mod Snapshots
