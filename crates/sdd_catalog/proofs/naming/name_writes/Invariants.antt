use Rattle.sdd_catalog.proofs.All.{map, name_at, take, ◌≡◌}
use Rattle.sdd_catalog.proofs.naming.name_writes.Given as goal

-- the parts so far are the items so far, named
abbrev pub invariant-loop-frag : goal.invariant-loop-frag
invariant-loop-frag l = l.names.items ≡ map (λ w. name_at (map (λ f. f.name) l.fragments) w.0) (take l.frag-index l.writes)
