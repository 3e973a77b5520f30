use Rattle.sdd_commands.proofs.All.{filter_map, map, submitted_by, take, ◌≡◌}
use Rattle.sdd_commands.proofs.serially.submitted_txns.Given as goal

-- the transactions of the events so far
abbrev pub invariant-events : goal.invariant-events
invariant-events l = map (λ t. t.now) l.found.items ≡ filter_map (submitted_by l.work.txns) (take l.event-index l.event-items)
