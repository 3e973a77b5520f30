use Rattle.sdd_attempt.proofs.All.{changes_at, take, ◌≡◌}
use Rattle.sdd_attempt.proofs.writes.changes_at.Given as goal

abbrev pub invariant-loop-change : goal.invariant-loop-change
invariant-loop-change l = l.here.items ≡ changes_at l.catalogue l.dm.0 (take l.change-index l.changes)
