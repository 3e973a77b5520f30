use Rattle.sdd_links.proofs.All.{All, length, taking, ◌++◌, ◌-◌, ◌<◌, ◌≡◌}
use Rattle.sdd_links.proofs.taking.take_nodes.Given as goal

abbrev pub invariant-loop : goal.invariant-loop
invariant-loop l = record {
  taken : l.order.items ++ taking l.after (length l.after - l.counter) l.counts.items l.ready.keys ≡ taking l.after
      (length l.after) l.initial.counts.items l.initial.ready.keys;
  nodes : All (λ i. i < length l.after) l.ready.keys;
  same : length l.counts.items ≡ length l.after;
}
