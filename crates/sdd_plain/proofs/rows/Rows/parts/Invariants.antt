use Rattle.sdd_plain.proofs.All.{drop, standing, ◌++◌, ◌+◌, ◌≡◌}
use Rattle.sdd_plain.proofs.rows.Rows.parts.Given as goal

-- the parts so far, with those of the relations that are left
abbrev pub invariant-rels : goal.invariant-rels
invariant-rels l = l.parts ++ standing l.self l.conds (l.i + 1) (drop l.i l.rels) ≡ standing l.self l.conds 1 l.rels
