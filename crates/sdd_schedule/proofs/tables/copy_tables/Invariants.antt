use Rattle.sdd_schedule.proofs.All.{Input, Log, Represents, flat_map, numbers_to, tables_at, ◌-◌, ◌≡◌}
use Rattle.sdd_schedule.proofs.tables.copy_tables.Given as goal

abbrev pub invariant-loop-number : goal.invariant-loop-number
invariant-loop-number l = (given : Input) (log : Log) → Represents l.world given log → l.tables.items ≡ flat_map (tables_at given log) (numbers_to (l.number - 1))
