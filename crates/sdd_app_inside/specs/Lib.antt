pub mod Inside
pub mod Text
pub use Rattle.sdd_run.specs as run
pub use Rattle.sdd_watch.specs as watch
