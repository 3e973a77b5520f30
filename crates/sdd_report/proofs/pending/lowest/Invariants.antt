use Rattle.sdd_report.proofs.All.{best_of, is_lower, length, ◌≡◌}
use Rattle.sdd_report.proofs.pending.lowest.Given as goal

-- the lowest so far and what is left have the lowest of all
abbrev pub invariant-others : goal.invariant-others
invariant-others l = best_of is_lower l.best l.rest ≡ best_of is_lower l.fn.first l.fn.others

abbrev pub decreases-others : goal.decreases-others
decreases-others l = length l.rest
