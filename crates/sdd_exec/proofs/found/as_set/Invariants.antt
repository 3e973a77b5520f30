use Rattle.sdd_exec.proofs.All.{distinct, fold, insert_key, row_cmp, ◌≡◌}
use Rattle.sdd_exec.proofs.found.as_set.Given as goal

-- the rows that are left make of the set what all make of none
abbrev pub invariant-loop-row : goal.invariant-loop-row
invariant-loop-row l =
    fold (λ kept row. insert_key row_cmp kept row) l.set.keys l.row-iterator.rest.items ≡ distinct l.fn.rows.items
