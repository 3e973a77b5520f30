use Rattle.sdd_advise.proofs.All.{flat_map, spaced_node, take, ◌++◌, ◌≡◌}
use Rattle.sdd_advise.proofs.spelling.put_nodes.Given as goal

-- so far the text holds the nodes so far
abbrev pub invariant-nodes : goal.invariant-nodes
invariant-nodes l = l.out.items ≡ l.fn.out.items ++ flat_map (spaced_node l.catalogue) (take l.node-index l.nodes)
