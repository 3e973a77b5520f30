mod All
pub mod Noting
pub mod Putting
pub mod Reading
pub mod Uses
pub use Rattle.sdd_exchange.proofs as exchange
