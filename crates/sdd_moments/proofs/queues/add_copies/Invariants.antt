use Rattle.sdd_moments.proofs.All.{drop, ◌++◌, ◌≡◌}
use Rattle.sdd_moments.proofs.queues.add_copies.Given as goal

-- with what is left there are all of them
abbrev pub invariant-loop-queue : goal.invariant-loop-queue
invariant-loop-queue l = l.copies.items ++ drop l.queue-index l.queues ≡ l.fn.copies.items ++ l.queues
