use Rattle.sdd_script.proofs.All.{class_bytes, drop, flat_map, ◌++◌, ◌≡◌}
use Rattle.sdd_script.proofs.write_lists.put_classes.Given as goal

-- what was written and what is left to write is all of it
abbrev pub invariant-classes : goal.invariant-classes
invariant-classes l = l.out.items ++ flat_map class_bytes (drop l.class-index l.classes) ≡ l.fn.out.items ++ flat_map class_bytes l.classes
