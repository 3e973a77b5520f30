use Rattle.sdd_graph.proofs.All.{diagonals_from, flat_map, numbers_to, ◌++◌, ◌-◌, ◌≡◌}
use Rattle.sdd_graph.proofs.conflicts.push_diagonals.Given as goal

-- the edges of the classes so far are pushed
abbrev pub invariant-loop-i : goal.invariant-loop-i
invariant-loop-i l = l.edges.items ≡ l.initial.edges.items ++ flat_map (diagonals_from l.uses) (numbers_to (l.i - 1))
