pub mod CommitLines
pub mod NamedBytes
pub mod RunComplete
