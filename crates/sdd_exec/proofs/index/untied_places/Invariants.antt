use Rattle.sdd_exec.proofs.All.{[], drop, keyed, places, rows_lent, ◌++◌, ◌≡◌}
use Rattle.sdd_exec.proofs.index.untied_places.Given as goal

abbrev pub invariant-loop-place : goal.invariant-loop-place
invariant-loop-place l =
    l.places.items ++ places (keyed l.part l.conds [] l.place (drop l.place (rows_lent l.rows))) []
    ≡ places (keyed l.part l.conds [] 0 (rows_lent l.rows)) []
