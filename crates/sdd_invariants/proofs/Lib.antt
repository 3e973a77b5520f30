pub mod Active
pub mod Again
mod All
pub mod Answered
pub mod Apart
pub mod Applied
pub mod AreReadSteps
pub mod AreSteps
pub mod Based
pub mod Bools
pub mod ClassOrder
pub mod Clocks
pub mod Dones
pub mod Exchanges
pub mod Fair
pub mod HoldChain
pub mod Holding
pub mod Homes
pub mod InOrder
pub mod InPipe
pub mod Installed
pub mod Lists
pub mod Made
pub mod Once
pub mod Origins
pub mod Places
pub mod Processed
pub mod PutBy
pub mod Queues
pub mod Readied
pub mod ReadsPut
pub mod Recorded
pub mod Releases
pub mod Retried
pub mod Rose
pub mod Sent
pub mod Serving
pub mod Sites
pub mod Split
pub mod Starting
pub mod Times
pub mod Turns
pub mod Undeclared
pub mod Waiting
pub mod WritesPut
pub use Rattle.sdd_log.proofs.base as base
pub use Rattle.sdd_log.proofs.net as net
pub use Rattle.sdd_log.proofs.catalog as catalog
pub use Rattle.sdd_log.proofs.history as history
pub use Rattle.sdd_log.proofs.wire as wire
pub use Rattle.sdd_graph.proofs as graph
pub use Rattle.sdd_log.proofs.protocol as protocol
pub use Rattle.sdd_log.proofs.lang as lang
pub use Rattle.sdd_log.proofs.pipe as pipe
pub use Rattle.sdd_semijoin.proofs as semijoin
pub use Rattle.sdd_log.proofs.site_module as site_module
pub use Rattle.sdd_log.proofs.attempt as attempt
pub use Rattle.sdd_log.proofs.dm as dm
pub use Rattle.sdd_log.proofs.tm as tm
pub use Rattle.sdd_log.proofs.umod as umod
pub use Rattle.sdd_log.proofs as logs
pub use Rattle.sdd_log.proofs.site_rules as site_rules
