use Rattle.sdd_blocks.proofs.RunEdges.{AreRunsSoFar}
use Rattle.sdd_blocks.proofs.runs.runs_of.Given as goal

abbrev pub invariant-loop-place : goal.invariant-loop-place
invariant-loop-place l = AreRunsSoFar l.edges l.runs.items l.count l.place
