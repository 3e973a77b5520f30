use Rattle.sdd_invariants.proofs.Releases.{start_ready}
use Rattle.sdd_invariants.proofs.holds_laws.law_ready.Goals as goal

pub returns : goal.returns
returns g = start_ready
