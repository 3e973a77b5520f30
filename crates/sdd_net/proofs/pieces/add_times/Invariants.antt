use Rattle.sdd_net.proofs.All.{replicate, ◌++◌, ◌≡◌}
use Rattle.sdd_net.proofs.pieces.add_times.Given as goal

abbrev pub invariant-loop : goal.invariant-loop
invariant-loop l = l.events.items ≡ l.initial.events.items ++ replicate l.counter l.event
