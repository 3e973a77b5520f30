use Rattle.sdd_invariants.proofs.InOrder.{handed_within, in_order}
use Rattle.sdd_invariants.proofs.traffic_laws.law_in_order.Goals as goal

pub returns-clause-first : goal.returns-clause-first
returns-clause-first g = in_order

pub returns-clause-within : goal.returns-clause-within
returns-clause-within g = handed_within
