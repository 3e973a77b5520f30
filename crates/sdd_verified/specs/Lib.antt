pub mod Lines
pub mod Parts
pub mod Summaries
pub mod Tellings
pub use Rattle.sdd_run.specs.script as script
pub use Rattle.sdd_run.specs.report as report
pub use Rattle.sdd_verify.specs as verifying
pub use Rattle.sdd_run.specs.make as make
pub use Rattle.sdd_run.specs.world as world
pub use Rattle.sdd_run.specs as run
