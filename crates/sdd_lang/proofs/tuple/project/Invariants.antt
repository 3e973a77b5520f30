use Rattle.sdd_lang.proofs.All.{map, rows_lent, take, value_at, ◌≡◌}
use Rattle.sdd_lang.proofs.tuple.project.Given as goal

-- the values so far are those of the columns so far
abbrev pub invariant-columns : goal.invariant-columns
invariant-columns l = l.values.items ≡ map (value_at (rows_lent l.tuple)) (take l.at-index l.out)
