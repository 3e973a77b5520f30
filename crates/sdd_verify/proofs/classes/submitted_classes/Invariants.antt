use Rattle.sdd_verify.proofs.All.{classes_from, drop, era_at, ◌++◌, ◌≡◌, ◌≤◌}
use Rattle.sdd_verify.proofs.classes.submitted_classes.Given as goal

-- the classes so far, and those of the events that are left
abbrev pub invariant-events : goal.invariant-events
invariant-events l = record {
  few : l.before ≤ l.event-index;
  left : l.classes.items ++ classes_from (era_at l.catalogue l.eras) l.work.txns l.before (drop l.event-index l.event-items)
      ≡ classes_from (era_at l.catalogue l.eras) l.work.txns 0 l.work.events;
}
