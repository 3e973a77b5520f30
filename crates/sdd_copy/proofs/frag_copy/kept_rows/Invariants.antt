use Rattle.sdd_copy.proofs.All.{rows_in, ◌++◌, ◌≡◌}
use Rattle.sdd_copy.proofs.frag_copy.kept_rows.Given as goal

abbrev pub invariant-loop-item : goal.invariant-loop-item
invariant-loop-item l = l.rows.items ++ rows_in l.item-iterator ≡ rows_in l.items
