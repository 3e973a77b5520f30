pub mod Certificate
pub mod Complete
pub mod Due
pub mod Examples
pub mod Findings
pub mod Kept
pub mod Pieces
pub mod Places
pub mod Skipping
pub mod Strict
pub mod Told
pub use Rattle.sdd_script.specs as script
pub use Rattle.sdd_verify.specs as verifying
