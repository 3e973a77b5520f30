pub mod All
pub mod attempt
pub mod dm
pub mod tm
pub mod umod
pub use Rattle.sdd_module.specs as site_module
pub use Rattle.sdd_module.specs.base as base
pub use Rattle.sdd_module.specs.catalog as catalog
pub use Rattle.sdd_module.specs.history as history
pub use Rattle.sdd_module.specs.lang as lang
pub use Rattle.sdd_module.specs.protocol as protocol
pub use Rattle.sdd_module.specs.wire as wire
pub use Rattle.sdd_graph.specs as graph
pub use Rattle.sdd_shipped.specs as shipped
pub use Rattle.sdd_semijoin.specs as semijoin
pub use Rattle.sdd_copy.specs as copy
pub use Rattle.sdd_pipe.specs as pipe
pub use Rattle.sdd_conditions.specs as conditions
