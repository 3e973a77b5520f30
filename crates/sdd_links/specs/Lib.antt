pub mod Attempts
pub mod Examples
pub mod Finding
pub mod Groups
pub mod Linked
pub mod Numbers
pub mod Orderable
pub mod Paths
pub mod Places
pub mod Precedence
pub mod Taken
pub mod Taking
pub use Rattle.sdd_history.specs as history
pub use Rattle.sdd_lang.specs as lang
