mod All
pub mod Allowed
pub mod AtRest
pub mod ErasWithTables
pub mod LastHomes
pub mod Lending
pub mod RunOf
pub mod Timely
pub mod Whole
pub mod Awaiting
pub mod Beginning
pub mod Submissions
pub mod SameReport
pub mod Starting
pub mod Apart
pub mod Goods
pub mod HasReport
pub mod InTurn
pub mod Left
pub mod Marked
pub mod Once
pub mod Ordered
pub mod Reported
pub mod WithRepliesOfOrder
pub mod Modules
pub mod NonePending
pub mod Settled
pub mod OneReport
pub mod Listed
pub mod Lossless
pub mod LowClocks
pub mod FreeAttempts
pub mod FreeAnswered
pub mod Lowest
pub mod ReadsThatWait
pub mod Standings
pub mod Reasons
pub use Rattle.sdd_script.proofs as script
pub use Rattle.sdd_lists.proofs as class_lists
pub use Rattle.sdd_report.proofs as report
pub use Rattle.sdd_make.proofs as make
pub use Rattle.sdd_progress.proofs as progress
pub use Rattle.sdd_schedule.proofs.world as world
pub use Rattle.sdd_schedule.proofs as schedule
pub use Rattle.sdd_schedule.proofs.world.attempts as attempts
pub use Rattle.sdd_schedule.proofs.world.data_module as data_module
pub use Rattle.sdd_schedule.proofs.world.txn_module as txn_module
pub use Rattle.sdd_schedule.proofs.world.u_module as u_module
