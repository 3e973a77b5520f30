use Rattle.sdd_short_runs.proofs.All.{take, ◌++◌, ◌≡◌}
use Rattle.sdd_short_runs.proofs.carrying.add_changes.Given as goal

-- those so far stand behind the first ones
abbrev pub invariant-more : goal.invariant-more
invariant-more l = l.changes.items ≡ l.initial.changes.items ++ take l.change-index l.more
