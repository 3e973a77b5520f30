use Rattle.sdd_obligations.proofs.LowClocks.{clock_low}
use Rattle.sdd_obligations.proofs.clocks_laws.law_low_clocks.Goals as goal

pub returns : goal.returns
returns g = clock_low
