use Rattle.sdd_report.proofs.All.{drop, pending_lines, ◌++◌, ◌≡◌}
use Rattle.sdd_report.proofs.pending.put_pending.Given as goal

-- what was written and what is left to write is all of it
abbrev pub invariant-pending : goal.invariant-pending
invariant-pending l =
    l.out.items ++ pending_lines l.catalogue l.txns (drop l.one-index l.pending) ≡ l.fn.out.items ++ pending_lines l.catalogue l.txns l.pending
