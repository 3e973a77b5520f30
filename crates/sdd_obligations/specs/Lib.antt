pub mod All
pub mod Awaited
pub mod Bounds
pub mod Contents
pub mod Fitting
pub mod Runnable
pub mod Heights
pub mod Reading
pub mod ServedRows
pub mod Routes
pub mod Stages
pub mod Turns
pub mod Upheld
pub use Rattle.sdd_invariants.specs as invariants
pub use Rattle.sdd_invariants.specs.attempt as attempt
pub use Rattle.sdd_invariants.specs.base as base
pub use Rattle.sdd_invariants.specs.catalog as catalog
pub use Rattle.sdd_invariants.specs.dm as dm
pub use Rattle.sdd_invariants.specs.graph as graph
pub use Rattle.sdd_invariants.specs.history as history
pub use Rattle.sdd_invariants.specs.lang as lang
pub use Rattle.sdd_invariants.specs.logs as logs
pub use Rattle.sdd_invariants.specs.net as net
pub use Rattle.sdd_invariants.specs.pipe as pipe
pub use Rattle.sdd_invariants.specs.protocol as protocol
pub use Rattle.sdd_invariants.specs.semijoin as semijoin
pub use Rattle.sdd_invariants.specs.site_module as site_module
pub use Rattle.sdd_invariants.specs.tm as tm
pub use Rattle.sdd_invariants.specs.umod as umod
pub use Rattle.sdd_invariants.specs.wire as wire
pub use Rattle.sdd_laws.specs as laws
pub use Rattle.sdd_laws.specs.class_eras as class_eras
pub use Rattle.sdd_laws.specs.copy as copy
pub use Rattle.sdd_laws.specs.links as links
pub use Rattle.sdd_laws.specs.serial_orders as serial_orders
pub use Rattle.sdd_needs.specs as needs
pub use Rattle.sdd_invariants.specs.site_rules as site_rules
