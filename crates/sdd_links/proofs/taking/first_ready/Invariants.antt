use Rattle.sdd_links.proofs.All.{first_ready, ◌≡◌}
use Rattle.sdd_links.proofs.taking.first_ready.Given as goal

abbrev pub invariant-loop-node : goal.invariant-loop-node
invariant-loop-node l = l.ready.keys ≡ first_ready l.counts l.node
