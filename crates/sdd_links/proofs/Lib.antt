pub mod Alike
mod All
pub mod Ascending
pub mod Before
pub mod Chained
pub mod EachLink
pub mod EachPrecedence
pub mod Firsts
pub mod Found
pub mod Grouped
pub mod Halves
pub mod Implied
pub mod LinkedOrders
pub mod Linking
pub mod Marking
pub mod Members
pub mod Nodes
pub mod Numbered
pub mod OrderOf
pub mod Paths
pub mod Places
pub mod Reading
pub mod Ready
pub mod Steps
pub mod Taken
pub use Rattle.sdd_lang.proofs.base as base
