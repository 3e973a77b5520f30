mod All
pub mod Arriving
pub mod Beginning
pub mod Delivering
pub mod HandedOver
pub mod Handing
pub mod Keeping
pub mod Marking
pub mod NextList
pub mod Parting
pub mod Placing
pub mod Rounds
pub mod Submitting
pub mod Ticking
pub mod Senders
pub mod Rising
pub mod Resuming
pub mod Turning
pub mod Results
pub use Rattle.sdd_sites.proofs as sites
pub use Rattle.sdd_sites.proofs.attempts as attempts
pub use Rattle.sdd_sites.proofs.data_module as data_module
pub use Rattle.sdd_sites.proofs.txn_module as txn_module
pub use Rattle.sdd_sites.proofs.u_module as u_module
pub use Rattle.sdd_sites.proofs.needs as needs
