use Rattle.sdd_backups.proofs.All.{[], map, replicate, ◌≡◌}
use Rattle.sdd_backups.proofs.links.Links.new.Given as goal

abbrev pub invariant-fill : goal.invariant-fill
invariant-fill l = map (λ q. q.items) l.queues.items ≡ replicate l.counter []
