mod All
pub mod EffectChanges
pub mod Firsts
pub mod FragSets
pub mod KeyKinds
pub mod KeyRanges
pub mod Numbering
pub mod Pushdown
pub mod ReadSetDecides
pub mod Rising
pub mod Running
pub mod Sets
pub mod SoFar
pub mod SortedEntries
pub mod Sources
pub mod Joining
pub mod StatementSets
pub mod StaysDatabase
pub mod UseLists
pub use Rattle.sdd_base.proofs as base
pub use Rattle.sdd_catalog.proofs as catalog
