use Rattle.sdd_graph.proofs.All.{Diagonal, class_no, filter, frag_no, map, take, writes, ◌++◌, ◌≡◌}
use Rattle.sdd_graph.proofs.conflicts.push_diagonals_between.Given as goal

-- the edges for the fragments so far are pushed
abbrev pub invariant-loop-f : goal.invariant-loop-f
invariant-loop-f l =
    l.edges.items ≡ l.initial.edges.items ++ map (λ f. Diagonal (class_no l.i) (class_no l.j) (frag_no f))
    (filter (writes l.uses l.j) (take l.f-index l.f-items))
