-- What is left of the classes is still to be reported.
use Rattle.sdd_watch.proofs.All.{active_of, drop, filter_map, ◌++◌, ◌≡◌}
use Rattle.sdd_watch.proofs.states.actives.Given as goal

abbrev pub invariant-loop-run : goal.invariant-loop-run
invariant-loop-run l = l.actives.items ++ filter_map active_of (drop l.run-index l.runs) ≡ filter_map active_of l.runs
