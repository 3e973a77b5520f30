use Rattle.sdd_catalog.proofs.All.{All, IsNamed, map, relation_of, take, ◌≡◌}
use Rattle.sdd_catalog.proofs.resolve.resolve_relations.Given as goal

-- what is resolved are the parts so far, whose names are names
abbrev pub invariant-loop-relation : goal.invariant-loop-relation
invariant-loop-relation l = record {
  value : l.resolved.items ≡ map (relation_of) (take l.relation-index l.relations);
  named : All IsNamed l.resolved.items;
}
