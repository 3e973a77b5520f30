mod All
pub mod ByTable
pub mod Failing
pub mod FirstModules
pub mod Fitting
pub mod Flying
pub mod InBytes
pub mod NextEra
pub mod Numbered
pub mod Quietness
pub mod ReadMessages
pub mod Sends
pub mod TxnModules
pub use Rattle.sdd_attempt.proofs as attempts
pub use Rattle.sdd_dm.proofs as data_module
pub use Rattle.sdd_tm.proofs as txn_module
pub use Rattle.sdd_umod.proofs as u_module
pub use Rattle.sdd_needs.proofs as needs
