use Rattle.sdd_blocks.proofs.All.{edges_in, length, take, ◌≡◌}
use Rattle.sdd_blocks.proofs.Ties.{IsTyingAt}
use Rattle.sdd_blocks.proofs.neighbours.tie_at.Given as goal

abbrev pub invariant-loop-run : goal.invariant-loop-run
invariant-loop-run l = record {
  tying : IsTyingAt (edges_in l.runs) l.node l.labels l.initial.pairs.items l.pairs.items l.first.items l.from;
  from : l.from ≡ length (edges_in (take l.run-index l.runs));
}

abbrev pub invariant-loop-edge : goal.invariant-loop-edge
invariant-loop-edge l = IsTyingAt (edges_in l.runs) l.node l.labels l.fn.pairs.items l.pairs.items l.first.items l.edge
