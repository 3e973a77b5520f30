use Rattle.sdd_protocol.proofs.All.{AreEntries}
use Rattle.sdd_protocol.proofs.entries.entries.Given as goal

abbrev pub invariant-loop-k : goal.invariant-loop-k
invariant-loop-k l = AreEntries l.edges l.blocks l.k l.entries.items
