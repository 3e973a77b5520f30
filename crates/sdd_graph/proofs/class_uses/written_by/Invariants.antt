use Rattle.sdd_graph.proofs.All.{length, map, numbers_to, take, ◌≡◌}
use Rattle.sdd_graph.proofs.Lists.{is_among}
use Rattle.sdd_graph.proofs.class_uses.written_by.Given as goal

-- the flags of the fragments so far are set
abbrev pub invariant-loop-frag : goal.invariant-loop-frag
invariant-loop-frag l =
    l.written.items ≡ map (is_among (take l.frag-index l.frag-items)) (numbers_to (length l.catalogue.fragments))
