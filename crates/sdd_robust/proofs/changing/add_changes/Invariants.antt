use Rattle.std.proofs.Common.{filter, map, take, ◌&&◌, ◌++◌, ◌==◌, ◌≡◌}
use Rattle.sdd_robust_laws.specs.declared.access.Access.{Access}
use Rattle.sdd_robust.specs.Changing.{held, list_of}
use Rattle.sdd_robust.proofs.changing.add_changes.Given as goal

-- of the accesses so far those that change stand in the list
abbrev pub invariant-accesses : goal.invariant-accesses
invariant-accesses l =
    held l.found.items ≡ held l.fn.found.items
    ++ map (λ x. (x, l.member)) (filter (λ (x : Access). x.changes && (list_of x.rel.0 == l.list)) (take l.access-index l.member.accesses))
