use Rattle.sdd_catalog.proofs.All.{All, IsName, fragment_from, map, relation_names, take, ◌≡◌}
use Rattle.sdd_catalog.proofs.resolve.resolve_fragments.Given as goal

-- what is resolved are the parts so far, whose names are names
abbrev pub invariant-loop-fragment : goal.invariant-loop-fragment
invariant-loop-fragment l = record {
  value : l.resolved.items ≡ map (fragment_from (relation_names l.relations)) (take l.fragment-index l.fragments);
  named : All (λ f. IsName f.name) l.resolved.items;
}
