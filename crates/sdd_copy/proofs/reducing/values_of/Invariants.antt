use Rattle.sdd_copy.proofs.All.{[], column, map, take, with_values, ◌≡◌}
use Rattle.sdd_copy.proofs.reducing.values_of.Given as goal

abbrev pub invariant-loop-row : goal.invariant-loop-row
invariant-loop-row l = l.known.keys ≡ with_values [] (map (λ row. column row l.number) (take l.row-index l.rows))
