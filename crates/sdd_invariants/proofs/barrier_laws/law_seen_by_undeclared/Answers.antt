use Rattle.sdd_invariants.proofs.Undeclared.{low_applied}
use Rattle.sdd_invariants.proofs.barrier_laws.law_seen_by_undeclared.Goals as goal

pub returns : goal.returns
returns g = low_applied
