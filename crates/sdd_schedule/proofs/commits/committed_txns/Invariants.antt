use Rattle.sdd_schedule.proofs.All.{commits, contains, list_any, nat_cmp, take, ℕ, ◌≡◌}
use Rattle.sdd_schedule.proofs.commits.committed_txns.Given as goal

abbrev pub invariant-loop-entry : goal.invariant-loop-entry
invariant-loop-entry l = (n : ℕ) → contains nat_cmp l.numbers n ≡ list_any (commits n) (take l.entry-index l.history)
