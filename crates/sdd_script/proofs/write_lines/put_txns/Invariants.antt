use Rattle.sdd_script.proofs.All.{drop, flat_map, txn_bytes, ◌++◌, ◌≡◌}
use Rattle.sdd_script.proofs.write_lines.put_txns.Given as goal

-- what was written and what is left to write is all of it
abbrev pub invariant-txns : goal.invariant-txns
invariant-txns l = l.out.items ++ flat_map (txn_bytes l.catalogue) (drop l.txn-index l.txns) ≡ l.fn.out.items ++ flat_map (txn_bytes l.catalogue) l.txns
