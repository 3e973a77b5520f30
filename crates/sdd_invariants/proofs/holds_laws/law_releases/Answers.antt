use Rattle.sdd_invariants.proofs.Releases.{serving}
use Rattle.sdd_invariants.proofs.holds_laws.law_releases.Goals as goal

pub returns : goal.returns
returns g = serving
