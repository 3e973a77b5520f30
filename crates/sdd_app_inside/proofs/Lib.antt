mod All
pub mod Apart
pub mod HasInside
pub mod Shown
mod TextOfRun
pub use Rattle.sdd_run.proofs as run
pub use Rattle.sdd_watch.proofs as watch
