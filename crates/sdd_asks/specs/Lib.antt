pub mod Asks
pub use Rattle.sdd_rules.specs as rules
