use Rattle.sdd_net.proofs.All.{flat_map, length, replicate, take, ◌++◌, ◌≡◌}
use Rattle.sdd_net.proofs.pieces.add_for_each.Given as goal

abbrev pub invariant-loop-at : goal.invariant-loop-at
invariant-loop-at g l = l.events.items ≡ l.initial.events.items ++ replicate (length (flat_map (λ q. q.items) (take l.at l.pieces))) l.event
