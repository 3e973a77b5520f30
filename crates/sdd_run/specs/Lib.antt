pub mod Clocks
pub mod Free
pub mod Lent
pub mod Reasons
pub mod Reports
pub mod Runs
pub mod ComesBefore
pub mod WorkedReasons
pub mod Worlds
pub mod Settled
pub mod Standings
pub use Rattle.sdd_script.specs as script
pub use Rattle.sdd_lists.specs as class_lists
pub use Rattle.sdd_report.specs as report
pub use Rattle.sdd_make.specs as make
pub use Rattle.sdd_progress.specs as progress
pub use Rattle.sdd_schedule.specs.world as world
pub use Rattle.sdd_schedule.specs as schedule
pub use Rattle.sdd_schedule.specs.world.attempts as attempts
pub use Rattle.sdd_schedule.specs.world.data_module as data_module
pub use Rattle.sdd_schedule.specs.world.exchange as exchange
pub use Rattle.sdd_schedule.specs.world.txn_module as txn_module
pub use Rattle.sdd_schedule.specs.world.u_module as u_module
