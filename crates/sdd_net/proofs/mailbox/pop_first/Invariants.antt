use Rattle.sdd_net.proofs.All.{[], get_or as slice_index_or, length, map, ℕ, ◌<◌, ◌≡◌}
use Rattle.sdd_net.proofs.mailbox.pop_first.Given as goal

abbrev pub invariant-loop-place : goal.invariant-loop-place
invariant-loop-place g l = record {
  count : length l.queues.items ≡ length l.fn.queues.items;
  same : map (λ q. q.items) l.queues.items ≡ map (λ q. q.items) l.fn.queues.items;
  lower : (j : ℕ) → j < l.place → slice_index_or (map (λ q. q.items) l.fn.queues.items) j [] ≡ [];
}
