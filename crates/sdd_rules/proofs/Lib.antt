mod All
pub mod attempt
pub mod dm
pub mod tm
pub mod umod
pub use Rattle.sdd_module.proofs as site_module
pub use Rattle.sdd_module.proofs.base as base
pub use Rattle.sdd_module.proofs.catalog as catalog
pub use Rattle.sdd_module.proofs.history as history
pub use Rattle.sdd_module.proofs.lang as lang
pub use Rattle.sdd_module.proofs.protocol as protocol
pub use Rattle.sdd_module.proofs.wire as wire
pub use Rattle.sdd_graph.proofs as graph
pub use Rattle.sdd_shipped.proofs as shipped
pub use Rattle.sdd_semijoin.proofs as semijoin
pub use Rattle.sdd_copy.proofs as copy
pub use Rattle.sdd_pipe.proofs as pipe
