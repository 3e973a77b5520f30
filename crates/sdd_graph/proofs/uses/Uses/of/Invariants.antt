use Rattle.sdd_graph.proofs.All.{class_uses, map, numbers_to, ◌-◌, ◌≡◌}
use Rattle.sdd_graph.proofs.uses.Uses.of.Given as goal

-- the classes so far
abbrev pub invariant-loop-i : goal.invariant-loop-i
invariant-loop-i l = l.classes.items ≡ map (class_uses l.catalogue) (numbers_to (l.i - 1))
