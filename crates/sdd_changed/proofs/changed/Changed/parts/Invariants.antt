use Rattle.sdd_changed.proofs.All.{drop, standing, ◌++◌, ◌+◌, ◌≡◌}
use Rattle.sdd_changed.proofs.changed.Changed.parts.Given as goal

-- the lists so far, with those of the relations that are left
abbrev pub invariant-rels : goal.invariant-rels
invariant-rels l = l.lists.items ++ standing l.self l.conds (l.i + 1) (drop l.i l.rels) ≡ standing l.self l.conds 1 l.rels
