pub mod All
pub mod Lines
pub mod Sound
pub mod Writes
pub use Rattle.sdd_exec.specs as exec
pub use Rattle.sdd_rules.specs.graph as graph
pub use Rattle.sdd_module.specs as site_module
pub use Rattle.sdd_module.specs.base as base
pub use Rattle.sdd_module.specs.catalog as catalog
pub use Rattle.sdd_module.specs.history as history
pub use Rattle.sdd_module.specs.lang as lang
pub use Rattle.sdd_module.specs.protocol as protocol
pub use Rattle.sdd_module.specs.wire as wire
pub use Rattle.sdd_rules.specs.semijoin as semijoin
pub use Rattle.sdd_running.specs.exchange as exchange
pub use Rattle.sdd_running.specs as running
