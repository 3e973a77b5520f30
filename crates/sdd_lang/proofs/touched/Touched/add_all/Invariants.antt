use Rattle.sdd_lang.proofs.All.{ascending, flat_map, members, take, written_by, ◌≡◌}
use Rattle.sdd_lang.proofs.StatementSets.{read_by}
use Rattle.sdd_lang.proofs.touched.Touched.add_all.Given as goal

-- what the statements so far read, and what they may change
abbrev pub invariant-loop-statement : goal.invariant-loop-statement
invariant-loop-statement l = record {
  reads : members l.catalogue l.self.reads ≡ ascending (flat_map (read_by l.catalogue) (take l.statement-index l.txn.statements));
  writes : members l.catalogue l.self.writes ≡ ascending (flat_map (written_by l.catalogue) (take l.statement-index l.txn.statements));
}
