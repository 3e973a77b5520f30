use Rattle.std.proofs.Common.{drop, ◌++◌, ◌+◌, ◌≡◌}
use Rattle.sdd_robust_laws.specs.Accesses.{part_accesses}
use Rattle.sdd_robust.proofs.accessing.add_parts.Given as goal

-- with those of the parts that are left these are all
abbrev pub invariant-rels : goal.invariant-rels
invariant-rels l =
    l.found.items ++ part_accesses l.catalogue l.conds l.out (l.i + 1) (drop l.i l.rels)
    ≡ l.fn.found.items ++ part_accesses l.catalogue l.conds l.out 1 l.rels
