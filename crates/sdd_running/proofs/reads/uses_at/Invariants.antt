use Rattle.sdd_running.proofs.All.{drop, filter_map, use_there, ◌++◌, ◌≡◌}
use Rattle.sdd_running.proofs.reads.uses_at.Given as goal

abbrev pub invariant-loop-one : goal.invariant-loop-one
invariant-loop-one l =
    l.found.items ++ filter_map (use_there l.catalogue l.class.0 l.dm.0) (drop l.one-index l.uses) ≡ filter_map (use_there l.catalogue l.class.0 l.dm.0) l.uses
