use Rattle.sdd_catalog.proofs.All.{fragment_part, map, take, ◌≡◌}
use Rattle.sdd_catalog.proofs.naming.name_fragments.Given as goal

-- the parts so far are the items so far, named
abbrev pub invariant-loop-fragment : goal.invariant-loop-fragment
invariant-loop-fragment l = l.parts.items ≡ map (fragment_part (map (λ r. r.name) l.relations)) (take l.fragment-index l.fragments)
