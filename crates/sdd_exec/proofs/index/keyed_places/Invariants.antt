use Rattle.sdd_exec.proofs.All.{drop, keyed, rows_lent, ◌++◌, ◌≡◌}
use Rattle.sdd_exec.proofs.index.keyed_places.Given as goal

abbrev pub invariant-loop-place : goal.invariant-loop-place
invariant-loop-place l =
    l.keyed.items ++ keyed l.part l.conds l.ties l.place (drop l.place (rows_lent l.rows)) ≡ keyed l.part l.conds l.ties 0 (rows_lent l.rows)
