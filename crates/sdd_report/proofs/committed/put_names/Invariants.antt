use Rattle.sdd_report.proofs.All.{flat_map, names_of, spaced, take, ◌++◌, ◌≡◌}
use Rattle.sdd_report.proofs.committed.put_names.Given as goal

-- the names so far are written
abbrev pub invariant-order : goal.invariant-order
invariant-order l = l.out.items ≡ l.fn.out.items ++ flat_map spaced (names_of l.txns (take l.txn-index l.order))
