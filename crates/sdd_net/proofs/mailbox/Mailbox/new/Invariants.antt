use Rattle.sdd_net.proofs.All.{[], map, replicate, ◌≡◌}
use Rattle.sdd_net.proofs.mailbox.Mailbox.new.Given as goal

abbrev pub invariant-loop : goal.invariant-loop
invariant-loop g l = map (λ q. q.items) l.queues.items ≡ replicate l.counter []
