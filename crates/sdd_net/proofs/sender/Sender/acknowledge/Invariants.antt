use Rattle.sdd_net.proofs.All.{drop, length, max, ◌+◌, ◌-◌, ◌≡◌, ◌≤◌}
use Rattle.sdd_net.proofs.sender.Sender.acknowledge.Given as goal

abbrev pub invariant-loop-self : goal.invariant-loop-self
invariant-loop-self g l = record {
  live : l.self-inside.live ≡ l.initial.self-inside.live;
  from : l.initial.self-inside.acked ≤ l.self-inside.acked;
  to : l.self-inside.acked ≤ max l.initial.self-inside.acked l.k;
  sum : l.self-inside.acked + length l.self-inside.unacked.items
      ≡ l.initial.self-inside.acked + length l.initial.self-inside.unacked.items;
  rest : l.self-inside.unacked.items
      ≡ drop (l.self-inside.acked - l.initial.self-inside.acked) l.initial.self-inside.unacked.items;
}

abbrev pub decreases-loop-self : goal.decreases-loop-self
decreases-loop-self g l = l.k - l.self-inside.acked
