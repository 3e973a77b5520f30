use Rattle.sdd_catalog.proofs.All.{AreMarked, drop, found_from, found_in, fragment_names, head_of, take, write_rules, ◌≡◌}
use Rattle.sdd_catalog.proofs.class_rules.broken_by_writes.Given as goal

-- nothing is found so far, and what was written is marked
abbrev pub invariant-loop-index : goal.invariant-loop-index
invariant-loop-index l = record {
  rest : head_of (found_in (write_rules l.parts) l.writes) ≡ head_of (found_from (write_rules l.parts) (take l.index l.writes) (drop l.index l.writes));
  marks : AreMarked (fragment_names l.parts.fragments) (take l.index l.writes) l.marks.items;
}
