use Rattle.sdd_attempt.proofs.All.{map, txn_of, ◌≡◌}
use Rattle.sdd_attempt.proofs.line.numbers_of.Given as goal

abbrev pub invariant-queue : goal.invariant-queue
invariant-queue l = record {
  can : goal.iterator-queue.can_next l.queued-iterator;
  ends : goal.iterator-queue.is_finite l.queued-iterator;
  numbers : l.numbers.items ≡ map txn_of (map (λ q. q.now) l.yielded);
}
