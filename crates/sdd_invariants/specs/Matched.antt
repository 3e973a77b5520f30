-- The records that processed a class's messages belong to them, one by one and in order.
use Rattle.std.specs.List.{AllZip}
use Rattle.std.specs.Prelude.{ℕ}
use Rattle.sdd_log.specs.site_module.SiteLog.{Log}
use Rattle.sdd_log.specs.All.{pipe}
use Rattle.sdd_invariants.specs.ReadSteps.{IsOf, results}

pub record IsMatched (c : ℕ) (log : Log) : Type 0 where
  pub matched : AllZip IsOf (results c log) (pipe c log).processed
