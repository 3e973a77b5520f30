pub mod Agreeing
pub mod All
pub mod Answers
pub mod Applies
pub mod Committed
pub mod Conditions
pub mod Copied
pub mod Deeds
pub mod Eras
pub mod Few
pub mod Kept
pub mod Ledger
pub mod Numbers
pub mod Order
pub mod Recorded
pub mod Redeclares
pub mod Rejections
pub mod Replay
pub mod Replayed
pub mod Snapshots
pub mod Starts
pub mod Undeclared
pub mod Values
pub use Rattle.sdd_copy.specs as copy
pub use Rattle.sdd_eras.specs as class_eras
pub use Rattle.sdd_graph.specs as graph
pub use Rattle.sdd_history.specs as history
pub use Rattle.sdd_lang.specs as lang
pub use Rattle.sdd_lang.specs.base as base
pub use Rattle.sdd_lang.specs.catalog as catalog
pub use Rattle.sdd_links.specs as links
pub use Rattle.sdd_order.specs as serial_orders
pub use Rattle.sdd_protocol.specs as protocol
