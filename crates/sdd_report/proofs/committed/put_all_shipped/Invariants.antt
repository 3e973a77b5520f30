use Rattle.sdd_report.proofs.All.{drop, flat_map, shipped_of, ◌++◌, ◌≡◌}
use Rattle.sdd_report.proofs.committed.put_all_shipped.Given as goal

-- what was written and what is left to write is all of it
abbrev pub invariant-order : goal.invariant-order
invariant-order l =
    l.out.items ++ flat_map (shipped_of l.txns l.commits) (drop l.txn-index l.order) ≡ l.fn.out.items ++ flat_map (shipped_of l.txns l.commits) l.order
