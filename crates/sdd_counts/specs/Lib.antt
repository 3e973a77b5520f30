pub mod Counts
pub mod Serving
pub use Rattle.sdd_rules.specs as rules
