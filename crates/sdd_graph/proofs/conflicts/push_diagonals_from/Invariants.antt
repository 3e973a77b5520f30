use Rattle.sdd_graph.proofs.All.{diagonals_between, flat_map, numbers_to, ◌++◌, ◌-◌, ◌≡◌}
use Rattle.sdd_graph.proofs.conflicts.push_diagonals_from.Given as goal

-- the edges to the classes so far are pushed
abbrev pub invariant-loop-j : goal.invariant-loop-j
invariant-loop-j l = l.edges.items ≡ l.initial.edges.items ++ flat_map (diagonals_between l.uses l.i) (numbers_to (l.j - 1))
