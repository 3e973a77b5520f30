use Rattle.sdd_moments.proofs.All.{drop, map, queue_in, ◌++◌, ◌≡◌}
use Rattle.sdd_moments.proofs.queues.add_queues.Given as goal

-- with what is left there are those of all classes
abbrev pub invariant-loop-class : goal.invariant-loop-class
invariant-loop-class l = l.queues.items ++ map queue_in (drop l.class-index l.classes) ≡ l.fn.queues.items ++ map queue_in l.classes
