mod All
pub mod QuestionsOfAttempt
pub mod LineActs
pub mod LineSteps
pub mod Noting
pub mod Phases
pub mod Places
pub mod Queueing
pub mod Served
pub mod SoundLines
pub mod Stamps
pub mod Tries
pub mod Waiting
pub use Rattle.sdd_module.proofs.base as base
pub use Rattle.sdd_module.proofs.catalog as catalog
pub use Rattle.sdd_module.proofs.history as history
pub use Rattle.sdd_module.proofs.wire as wire
pub use Rattle.sdd_rules.proofs.graph as graph
pub use Rattle.sdd_module.proofs.protocol as protocol
pub use Rattle.sdd_module.proofs.lang as lang
pub use Rattle.sdd_exec.proofs as exec
pub use Rattle.sdd_rules.proofs.semijoin as semijoin
pub use Rattle.sdd_module.proofs as site_module
