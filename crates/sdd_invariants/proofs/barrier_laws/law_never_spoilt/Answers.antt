use Rattle.sdd_invariants.proofs.Undeclared.{never_spoilt}
use Rattle.sdd_invariants.proofs.barrier_laws.law_never_spoilt.Goals as goal

pub returns : goal.returns
returns g = never_spoilt
