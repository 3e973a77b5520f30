use Rattle.sdd_plain.proofs.All.{deref_pair, filter, map, may_join, rows_lent, ◌≡◌}
use Rattle.sdd_plain.proofs.rows.Rows.part.Given as goal

-- the rows so far that may stand in the part
abbrev pub invariant-rows : goal.invariant-rows
invariant-rows l = rows_lent l.rows.items ≡ filter (may_join l.conds l.fn.part) (map (λ e. e.1) (map deref_pair l.yielded))
