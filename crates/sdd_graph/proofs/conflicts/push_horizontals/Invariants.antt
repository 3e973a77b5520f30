use Rattle.sdd_graph.proofs.All.{flat_map, horizontals_from, numbers_to, ◌++◌, ◌-◌, ◌≡◌}
use Rattle.sdd_graph.proofs.conflicts.push_horizontals.Given as goal

-- the edges of the classes so far are pushed
abbrev pub invariant-loop-i : goal.invariant-loop-i
invariant-loop-i l = l.edges.items ≡ l.initial.edges.items ++ flat_map (horizontals_from l.uses) (numbers_to (l.i - 1))
