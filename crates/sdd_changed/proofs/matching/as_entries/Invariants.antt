use Rattle.sdd_changed.proofs.All.{as_of, entries_of, map, ◌≡◌}
use Rattle.sdd_changed.proofs.matching.as_entries.Given as goal

-- the entries so far
abbrev pub invariant-rows : goal.invariant-rows
invariant-rows l = entries_of l.fn.rel.0 l.entries.items ≡ map (as_of l.fn.rel.0) l.yielded
