use Rattle.sdd_obligations.proofs.Early.{is_under}
use Rattle.sdd_obligations.proofs.clocks_laws.law_height.Goals as goal

pub returns : goal.returns
returns g = is_under
