use Rattle.sdd_obligations.proofs.Early.{clock_below, times_below}
use Rattle.sdd_obligations.proofs.clocks_laws.law_early.Goals as goal

pub returns-clause-clocks : goal.returns-clause-clocks
returns-clause-clocks g = clock_below

pub returns-clause-times : goal.returns-clause-times
returns-clause-times g = times_below
