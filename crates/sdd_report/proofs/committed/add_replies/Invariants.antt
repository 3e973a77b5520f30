use Rattle.sdd_report.proofs.All.{drop, flat_map, reply_of, ◌++◌, ◌≡◌}
use Rattle.sdd_report.proofs.committed.add_replies.Given as goal

-- what was written and what is left to write is all of it
abbrev pub invariant-order : goal.invariant-order
invariant-order l = l.out ++ flat_map (reply_of l.txns l.commits) (drop l.txn-index l.order) ≡ l.fn.out ++ flat_map (reply_of l.txns l.commits) l.order
