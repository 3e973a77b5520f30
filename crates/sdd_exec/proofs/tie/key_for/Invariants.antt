use Rattle.sdd_exec.proofs.All.{key_for, picked, take, ◌≡◌}
use Rattle.sdd_exec.proofs.tie.key_for.Given as goal

abbrev pub invariant-loop-tie : goal.invariant-loop-tie
invariant-loop-tie l = l.key.items ≡ key_for (take l.tie-index l.ties) (picked l.parts l.choice)
