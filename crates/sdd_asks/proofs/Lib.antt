mod All
pub mod Firsts
pub use Rattle.sdd_rules.proofs as rules
