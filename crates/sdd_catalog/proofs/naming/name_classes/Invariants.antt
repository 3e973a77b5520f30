use Rattle.sdd_catalog.proofs.All.{class_part, map, take, ◌≡◌}
use Rattle.sdd_catalog.proofs.naming.name_classes.Given as goal

-- the parts so far are the items so far, named
abbrev pub invariant-loop-class : goal.invariant-loop-class
invariant-loop-class l = l.parts.items ≡ map (class_part (map (λ f. f.name) l.fragments)) (take l.class-index l.classes)
