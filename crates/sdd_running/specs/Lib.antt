pub mod Reads
pub mod Running
pub use Rattle.sdd_exchange.specs as exchange
