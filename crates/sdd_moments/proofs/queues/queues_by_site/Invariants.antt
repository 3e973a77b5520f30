use Rattle.sdd_moments.proofs.All.{Calm, Input, Log, all_sites, map, queues_by, take, ◌≡◌}
use Rattle.sdd_moments.proofs.queues.queues_by_site.Given as goal

-- those so far
abbrev pub invariant-loop-at : goal.invariant-loop-at
invariant-loop-at l = (g : Input) (log : Log) → Calm l.world g log → l.sites ≡ all_sites g → l.queues.items ≡ map (queues_by g log) (take l.at-index l.sites)
