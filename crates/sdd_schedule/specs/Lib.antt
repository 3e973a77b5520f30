pub mod Copies
pub mod Events
pub mod LastHomes
pub mod Pending
pub mod Places
pub mod Schedules
pub mod SoFar
pub use Rattle.sdd_world.specs as world
