use Rattle.sdd_invariants.proofs.HoldChain.{hold_chain}
use Rattle.sdd_invariants.proofs.barrier_laws.law_holds.Goals as goal

pub returns : goal.returns
returns g = hold_chain
