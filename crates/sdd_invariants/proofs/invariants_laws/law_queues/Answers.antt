use Rattle.sdd_invariants.proofs.Queues.{queue_is}
use Rattle.sdd_invariants.proofs.invariants_laws.law_queues.Goals as goal

pub returns : goal.returns
returns g = queue_is
