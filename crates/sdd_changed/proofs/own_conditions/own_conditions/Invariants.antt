use Rattle.sdd_changed.proofs.All.{map, on_first_part, own_conditions, ◌++◌, ◌≡◌}
use Rattle.sdd_changed.proofs.own_conditions.own_conditions.Given as goal

-- the conditions so far, with those that are left
abbrev pub invariant-restrictions : goal.invariant-restrictions
invariant-restrictions l = l.own.items ++ map on_first_part l.restriction-iterator.rest.items ≡ own_conditions l.fn.part l.conds
