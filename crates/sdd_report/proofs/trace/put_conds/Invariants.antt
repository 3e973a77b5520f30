use Rattle.sdd_report.proofs.All.{cond_words, drop, ◌++◌, ◌≡◌}
use Rattle.sdd_report.proofs.trace.put_conds.Given as goal

-- what was written and what is left to write is all of it
abbrev pub invariant-conds : goal.invariant-conds
invariant-conds l = l.out.items ++ cond_words l.catalogue (drop l.cond-index l.conds) ≡ l.fn.out.items ++ cond_words l.catalogue l.conds
