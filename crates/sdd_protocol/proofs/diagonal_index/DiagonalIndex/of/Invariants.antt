use Rattle.sdd_protocol.proofs.All.{IsIndexOf, ◌≡◌}
use Rattle.sdd_protocol.proofs.diagonal_index.DiagonalIndex.of.Given as goal

abbrev pub invariant-loop-k : goal.invariant-loop-k
invariant-loop-k l = (l.index.width ≡ l.width) × IsIndexOf l.entries l.k l.index
