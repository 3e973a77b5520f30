use Rattle.sdd_graph.proofs.All.{Horizontal, class_no, filter, map, nat_lt, numbers_to, write_sets_meet, ◌&&◌, ◌++◌, ◌-◌, ◌≡◌}
use Rattle.sdd_graph.proofs.conflicts.push_horizontals_from.Given as goal

-- the edges to the classes so far are pushed
abbrev pub invariant-loop-j : goal.invariant-loop-j
invariant-loop-j l =
    l.edges.items ≡ l.initial.edges.items ++ map (λ j. Horizontal (class_no l.i) (class_no j))
    (filter (λ j. nat_lt l.i j && write_sets_meet l.uses l.i j) (numbers_to (l.j - 1)))
