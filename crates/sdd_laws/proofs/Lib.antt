pub mod Acyclic
pub mod AgreeingCopies
mod All
pub mod Applied
pub mod Changes
pub mod Copied
pub mod CopyEntries
pub mod CopyValues
pub mod Deeds
pub mod Few
pub mod Fitting
pub mod Fragments
pub mod Gathered
pub mod CatalogueAt
pub mod Latest
pub mod Lists
pub mod LookUps
pub mod Members
pub mod NumberedStarts
pub mod Orders
pub mod Origins
pub mod Precedes
pub mod Reading
pub mod Recorded
pub mod Replayed
pub mod Run
pub mod SameContents
pub mod SameCopies
pub mod Snapshots
pub mod Steps
pub mod Times
pub mod Together
pub mod Values
pub mod Worked
pub mod WorkedReplay
pub use Rattle.sdd_lang.proofs.base as base
pub use Rattle.sdd_lang.proofs.catalog as catalog
pub use Rattle.sdd_history.proofs as history
pub use Rattle.sdd_graph.proofs as graph
pub use Rattle.sdd_protocol.proofs as protocol
pub use Rattle.sdd_lang.proofs as lang
pub use Rattle.sdd_eras.proofs as class_eras
pub use Rattle.sdd_copy.proofs as copy
pub use Rattle.sdd_links.proofs as links
pub use Rattle.sdd_order.proofs as serial_orders
