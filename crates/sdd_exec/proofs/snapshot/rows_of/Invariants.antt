use Rattle.sdd_exec.proofs.All.{rows_for, rows_lent, take, ◌≡◌}
use Rattle.sdd_exec.proofs.snapshot.rows_of.Given as goal

abbrev pub invariant-loop-one : goal.invariant-loop-one
invariant-loop-one l = rows_lent l.rows.items ≡ rows_for (take l.one-index l.shipped) l.use_no
