-- The sites before the one at hand are looked at.
use Rattle.sdd_moments.proofs.All.{AreAside, Calm, Input, Log, all_sites, map, queues_by, ◌≡◌}
use Rattle.sdd_moments.proofs.QueuesLooked.{QueuesSoFar}
use Rattle.sdd_moments.proofs.queues.look_at_queues.Given as goal

abbrev pub invariant-loop-at : goal.invariant-loop-at
invariant-loop-at l =
    (g : Input) (old new : Log) → Calm l.world g new → AreAside g old new l.moved l.reach → l.fn.queues ≡ map (queues_by g old) (all_sites g)
    → QueuesSoFar g old new l.moved l.reach l.at-index l.queues l.both
