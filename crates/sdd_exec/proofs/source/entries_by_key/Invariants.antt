use Rattle.sdd_exec.proofs.All.{[], fold, of_relation, rows_lent, take, with_chosen, ◌≡◌}
use Rattle.sdd_exec.proofs.source.entries_by_key.Given as goal

abbrev pub invariant-loop-row : goal.invariant-loop-row
invariant-loop-row l = of_relation l.rel.0 l.entries ≡ fold (with_chosen l.catalogue l.rel.0 l.conds) [] (take l.row-index (rows_lent l.rows))
