use Rattle.std.proofs.Common.{◌≡◌}
use Rattle.sdd_robust.specs.PlaceSets.{Lacks}
use Rattle.sdd_robust.proofs.Rests.{IsFlooded}
use Rattle.sdd_robust.proofs.conflicts.Conflicts.without_reached.Given as goal

abbrev pub invariant-reached : goal.invariant-reached
invariant-reached l = (l.self ≡ l.initial.self) × IsFlooded l.initial.self l.left l.ends l.rest l.queue.items × Lacks l.rest l.start
