use Rattle.sdd_catalog.proofs.All.{dm_no, map, take, ◌≡◌}
use Rattle.sdd_catalog.proofs.resolve.resolve_copies.Given as goal

-- what is resolved are the numbers so far
abbrev pub invariant-loop-copy : goal.invariant-loop-copy
invariant-loop-copy l = l.resolved.items ≡ map dm_no (take l.copy-index l.copies)
