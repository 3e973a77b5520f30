use Rattle.sdd_watch.proofs.All.{Input, Log, arrived, filter, found_by, given_to, last_event, take, takes_part, ◌≡◌}
use Rattle.sdd_watch.proofs.taking_part.busy_among.Given as goal

-- those so far
abbrev pub invariant-loop-at : goal.invariant-loop-at
invariant-loop-at l = (g : Input) (old new : Log) → l.event ≡ last_event new → l.found ≡ found_by l.event old new → l.arrived ≡ arrived g old new
    → l.home ≡ given_to g new l.event → l.busy.items ≡ filter (takes_part g old new) (take l.at-index l.sites)
