mod All
pub use Rattle.sdd_rules.proofs as rules
