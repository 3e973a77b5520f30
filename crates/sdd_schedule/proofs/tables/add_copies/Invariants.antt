use Rattle.sdd_schedule.proofs.All.{Dated, filter, has_copy, map, numbers_to, table_of, ◌++◌, ◌-◌, ◌≡◌}
use Rattle.sdd_world.specs.needs.All.{Represent}
use Rattle.sdd_schedule.proofs.tables.add_copies.Given as goal

abbrev pub invariant-loop-number : goal.invariant-loop-number
invariant-loop-number l = (xs : Dated) → Represent l.copies.value xs
    → l.tables.items ≡ l.fn.tables.items ++ map (table_of l.dm.0 xs) (filter (has_copy l.catalogue l.dm.0) (numbers_to (l.number - 1)))
