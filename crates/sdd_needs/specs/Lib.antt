pub mod AfterEvents
pub mod All
pub mod Fitting
pub mod Inputs
pub mod Obligations
pub use Rattle.sdd_log.specs as logs
pub use Rattle.sdd_log.specs.attempt as attempt
pub use Rattle.sdd_log.specs.base as base
pub use Rattle.sdd_log.specs.catalog as catalog
pub use Rattle.sdd_log.specs.dm as dm
pub use Rattle.sdd_log.specs.history as history
pub use Rattle.sdd_log.specs.lang as lang
pub use Rattle.sdd_log.specs.net as net
pub use Rattle.sdd_log.specs.pipe as pipe
pub use Rattle.sdd_log.specs.protocol as protocol
pub use Rattle.sdd_log.specs.site_module as site_module
pub use Rattle.sdd_log.specs.tm as tm
pub use Rattle.sdd_log.specs.umod as umod
pub use Rattle.sdd_log.specs.wire as wire
pub use Rattle.sdd_copy.specs as copy
pub use Rattle.sdd_eras.specs as class_eras
pub use Rattle.sdd_log.specs.site_rules as site_rules
