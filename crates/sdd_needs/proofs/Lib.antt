mod All
pub mod Done
pub mod ErasInForce
pub mod FewMarks
pub mod OfNext
pub use Rattle.sdd_log.proofs as logs
pub use Rattle.sdd_log.proofs.attempt as attempt
pub use Rattle.sdd_log.proofs.base as base
pub use Rattle.sdd_log.proofs.catalog as catalog
pub use Rattle.sdd_log.proofs.dm as dm
pub use Rattle.sdd_graph.proofs as graph
pub use Rattle.sdd_log.proofs.lang as lang
pub use Rattle.sdd_log.proofs.net as net
pub use Rattle.sdd_log.proofs.tm as tm
pub use Rattle.sdd_log.proofs.wire as wire
pub use Rattle.sdd_eras.proofs as class_eras
pub use Rattle.sdd_log.proofs.site_rules as site_rules
