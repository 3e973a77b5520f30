use Rattle.sdd_advise.proofs.Distinctness.{IsMarking}
use Rattle.sdd_advise.proofs.cycle.differ.Given as goal

abbrev pub invariant-nodes : goal.invariant-nodes
invariant-nodes l = IsMarking l.nodes l.node-index l.limit l.met.items
