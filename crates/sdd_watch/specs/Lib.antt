pub mod Happens
pub mod Keeping
pub mod Looking
pub mod States
pub mod ScheduleSoFar
pub mod Text
pub mod Watching
pub use Rattle.sdd_moments.specs.obligations as obligations
pub use Rattle.sdd_moments.specs as moments
