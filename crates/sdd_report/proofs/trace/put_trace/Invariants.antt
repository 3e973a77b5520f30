use Rattle.sdd_report.proofs.All.{drop, trace, ◌++◌, ◌≡◌}
use Rattle.sdd_report.proofs.trace.put_trace.Given as goal

-- what was written and what is left to write is all of it
abbrev pub invariant-history : goal.invariant-history
invariant-history l = l.out.items ++ trace l.catalogue l.txns (drop l.made-index l.history) ≡ l.fn.out.items ++ trace l.catalogue l.txns l.history
