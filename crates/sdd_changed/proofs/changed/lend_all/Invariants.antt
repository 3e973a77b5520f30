use Rattle.sdd_changed.proofs.All.{take, ◌≡◌}
use Rattle.sdd_changed.proofs.changed.lend_all.Given as goal

-- the lists so far
abbrev pub invariant-lists : goal.invariant-lists
invariant-lists l = l.parts ≡ take l.rows-index l.lists
