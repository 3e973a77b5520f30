use Rattle.sdd_exec.proofs.All.{key_of, take, ◌≡◌}
use Rattle.sdd_exec.proofs.tie.key_of.Given as goal

abbrev pub invariant-loop-tie : goal.invariant-loop-tie
invariant-loop-tie l = l.key.items ≡ key_of (take l.tie-index l.ties) l.row
