use Rattle.sdd_schedule.proofs.All.{Input, Log, Represents, filter_map, numbers_to, wait_at, ◌-◌, ◌≡◌}
use Rattle.sdd_schedule.proofs.waits.all_waits.Given as goal

abbrev pub invariant-loop-number : goal.invariant-loop-number
invariant-loop-number l = (given : Input) (log : Log) → Represents l.world given log
    → l.found.items ≡ filter_map (wait_at given log l.class.0 l.ts.0) (numbers_to (l.number - 1))
