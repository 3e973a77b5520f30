pub mod All
pub mod AtT
pub mod AtU
pub mod Barrier
pub mod Causes
pub mod InQueues
pub mod Made
pub mod Matched
pub mod OfRecords
pub mod OnLinks
pub mod Orders
pub mod Puts
pub mod PutsBy
pub mod ReadSteps
pub mod Readied
pub mod Rejections
pub mod Releases
pub mod Seen
pub mod Stamps
pub mod Steps
pub mod Traffic
pub mod Turns
pub mod Unspoilt
pub use Rattle.sdd_graph.specs as graph
pub use Rattle.sdd_log.specs as logs
pub use Rattle.sdd_log.specs.attempt as attempt
pub use Rattle.sdd_log.specs.base as base
pub use Rattle.sdd_log.specs.catalog as catalog
pub use Rattle.sdd_log.specs.dm as dm
pub use Rattle.sdd_log.specs.history as history
pub use Rattle.sdd_log.specs.lang as lang
pub use Rattle.sdd_log.specs.net as net
pub use Rattle.sdd_log.specs.pipe as pipe
pub use Rattle.sdd_log.specs.protocol as protocol
pub use Rattle.sdd_log.specs.site_module as site_module
pub use Rattle.sdd_log.specs.tm as tm
pub use Rattle.sdd_log.specs.umod as umod
pub use Rattle.sdd_log.specs.wire as wire
pub use Rattle.sdd_semijoin.specs as semijoin
pub use Rattle.sdd_log.specs.site_rules as site_rules
