use Rattle.sdd_schedule.proofs.All.{Input, Log, Represents, filter_map, history, pending_at_last, take, ◌≡◌}
use Rattle.sdd_schedule.proofs.pending.pending_txns.Given as goal

abbrev pub invariant-loop-entry : goal.invariant-loop-entry
invariant-loop-entry l = (given : Input) (log : Log) → Represents l.world given log
    → l.found.items ≡ filter_map (pending_at_last given log (history log)) (take l.entry-index l.history)
