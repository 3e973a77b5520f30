use Rattle.sdd_dm.proofs.All.{None, replicate, ◌≡◌}
use Rattle.sdd_dm.proofs.starting.no_spaces.Given as goal

abbrev pub invariant-loop : goal.invariant-loop
invariant-loop l = l.spaces.items ≡ replicate l.counter None
