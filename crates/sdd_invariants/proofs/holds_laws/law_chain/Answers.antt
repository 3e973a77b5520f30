use Rattle.sdd_invariants.proofs.Serving.{chain}
use Rattle.sdd_invariants.proofs.holds_laws.law_chain.Goals as goal

pub returns : goal.returns
returns g = chain
