use Rattle.sdd_blocks.proofs.All.{range_with_len, ◌≡◌}
use Rattle.sdd_blocks.proofs.forest.Forest.new.Given as goal

abbrev pub invariant-loop-node : goal.invariant-loop-node
invariant-loop-node l = l.parents.items ≡ range_with_len 0 l.node
