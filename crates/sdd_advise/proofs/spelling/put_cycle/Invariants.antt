use Rattle.sdd_advise.proofs.All.{cycle_line, flat_map, take, ◌++◌, ◌≡◌}
use Rattle.sdd_advise.proofs.spelling.put_cycle.Given as goal

-- so far the text holds the lines of the edges so far
abbrev pub invariant-edges : goal.invariant-edges
invariant-edges l = l.out.items ≡ l.fn.out.items ++ flat_map (cycle_line l.catalogue) (take l.edge-index l.cycle)
