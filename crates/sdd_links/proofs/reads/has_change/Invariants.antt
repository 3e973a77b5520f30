use Rattle.sdd_links.proofs.All.{drop, list_any, ◌==◌, ◌≡◌}
use Rattle.sdd_links.proofs.reads.has_change.Given as goal

abbrev pub invariant-loop-change : goal.invariant-loop-change
invariant-loop-change l = list_any (λ c. c.frag.0 == l.frag.0) (drop l.change-index l.changes) ≡ list_any (λ c. c.frag.0 == l.frag.0) l.changes
