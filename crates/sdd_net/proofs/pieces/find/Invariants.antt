use Rattle.sdd_net.proofs.All.{flat_map, length, take, ◌+◌, ◌≡◌}
use Rattle.sdd_net.proofs.pieces.find.Given as goal

abbrev pub invariant-loop-at : goal.invariant-loop-at
invariant-loop-at g l = l.rest + length (flat_map (λ q. q.items) (take l.at l.pieces)) ≡ l.place
