use Rattle.sdd_report.proofs.All.{get, nat_cmp, reported_of, take, ℕ, ◌≡◌}
use Rattle.sdd_report.proofs.committed.first_commits.Given as goal

abbrev pub invariant-history : goal.invariant-history
invariant-history l = (n : ℕ) → get nat_cmp l.made n ≡ reported_of (take l.one-index l.history) n
