use Rattle.sdd_catalog.proofs.All.{All, IsName, class_of, fragment_names, map, take, ◌≡◌}
use Rattle.sdd_catalog.proofs.resolve.resolve_each_class.Given as goal

-- what is resolved are the parts so far, whose names are names
abbrev pub invariant-loop-class : goal.invariant-loop-class
invariant-loop-class l = record {
  value : l.resolved.items ≡ map (class_of (fragment_names l.parts.fragments)) (take l.class-index l.classes);
  named : All (λ c. IsName c.name) l.resolved.items;
}
