use Rattle.sdd_dm.proofs.All.{false, replicate, ◌≡◌}
use Rattle.sdd_dm.proofs.starting.no_waits.Given as goal

abbrev pub invariant-loop : goal.invariant-loop
invariant-loop l = l.waits.items ≡ replicate l.counter false
