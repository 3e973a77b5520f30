use Rattle.sdd_run.proofs.All.{era_of_list, eras_with_tables, map, tail_of, take, ◌-◌, ◌≡◌}
use Rattle.sdd_run.proofs.era_lists.further.Given as goal

-- so far
abbrev pub invariant-places : goal.invariant-places
invariant-places l = map era_of_list l.lists.items ≡ take (l.place - 1) (tail_of (eras_with_tables l.eras l.tables))
