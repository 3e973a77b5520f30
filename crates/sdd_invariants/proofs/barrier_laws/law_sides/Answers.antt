use Rattle.sdd_invariants.proofs.Apart.{low_or_high}
use Rattle.sdd_invariants.proofs.barrier_laws.law_sides.Goals as goal

pub returns : goal.returns
returns g = low_or_high
