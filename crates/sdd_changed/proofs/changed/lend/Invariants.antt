use Rattle.sdd_changed.proofs.All.{rows_lent, take, ◌≡◌}
use Rattle.sdd_changed.proofs.changed.lend.Given as goal

-- the rows so far
abbrev pub invariant-rows : goal.invariant-rows
invariant-rows l = rows_lent l.lent.items ≡ take l.row-index l.rows
