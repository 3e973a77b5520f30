use Rattle.sdd_make.proofs.All.{account_row, map, range_with_len, ◌++◌, ◌+◌, ◌-◌, ◌≡◌}
use Rattle.sdd_make.proofs.turns.add_accounts.Given as goal

-- the rows so far and those that are left are all of them
abbrev pub invariant-rows : goal.invariant-rows
invariant-rows l =
    l.rows.items ++ map account_row (range_with_len (l.first + l.i) (10 - l.i))
    ≡ l.fn.rows.items ++ map account_row (range_with_len (l.first + 0) (10 - 0))
