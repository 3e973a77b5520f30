use Rattle.sdd_watch.proofs.All.{Calm, Input, Log, changes_applied, drop, fold, with_row, ◌≡◌}
use Rattle.sdd_watch.proofs.rows.add_rows.Given as goal

-- with what is left there are the rows of all changes
abbrev pub invariant-loop-change : goal.invariant-loop-change
invariant-loop-change l = (g : Input) (log : Log) → Calm l.world g log
    → fold (with_row g log) l.rows.items (changes_applied g l.dm (drop l.change-index l.changes))
    ≡ fold (with_row g log) l.fn.rows.items (changes_applied g l.dm l.changes)
