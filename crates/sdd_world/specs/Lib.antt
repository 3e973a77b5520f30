pub mod Following
pub mod Represents
pub use Rattle.sdd_sites.specs as sites
pub use Rattle.sdd_sites.specs.attempts as attempts
pub use Rattle.sdd_sites.specs.exchange as exchange
pub use Rattle.sdd_sites.specs.data_module as data_module
pub use Rattle.sdd_sites.specs.txn_module as txn_module
pub use Rattle.sdd_sites.specs.u_module as u_module
pub use Rattle.sdd_sites.specs.needs as needs
