pub mod AtEvent
pub mod Awaiting
pub mod Changes
pub mod Looking
pub mod Moments
pub mod Reaching
pub use Rattle.sdd_progress.specs.obligations as obligations
pub use Rattle.sdd_schedule.specs as schedule
