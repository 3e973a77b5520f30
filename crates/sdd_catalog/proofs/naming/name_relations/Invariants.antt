use Rattle.sdd_catalog.proofs.All.{map, relation_part, take, ◌≡◌}
use Rattle.sdd_catalog.proofs.naming.name_relations.Given as goal

-- the parts so far are the items so far, named
abbrev pub invariant-loop-relation : goal.invariant-loop-relation
invariant-loop-relation l = l.parts.items ≡ map (relation_part) (take l.relation-index l.relations)
