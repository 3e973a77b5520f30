pub mod AtSites
pub mod Beginnings
pub mod Carries
pub mod DueAt
pub mod Kinds
pub mod Modules
pub mod Sending
pub mod Standings
pub use Rattle.sdd_attempt.specs as attempts
pub use Rattle.sdd_attempt.specs.exchange as exchange
pub use Rattle.sdd_dm.specs as data_module
pub use Rattle.sdd_tm.specs as txn_module
pub use Rattle.sdd_umod.specs as u_module
pub use Rattle.sdd_needs.specs as needs
