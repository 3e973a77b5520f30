use Rattle.sdd_watch.proofs.All.{Calm, Input, Log, [], applied_by, drop, flat_map, fold, history, with_row, ◌≡◌}
use Rattle.sdd_watch.proofs.rows.rows_from.Given as goal

-- with what is left there are the rows of all records from the place on
abbrev pub invariant-loop-place : goal.invariant-loop-place
invariant-loop-place l = (g : Input) (log : Log) → Calm l.world g log
    → fold (with_row g log) l.rows.items (flat_map (applied_by g (history log)) (drop l.place l.records))
    ≡ fold (with_row g log) [] (flat_map (applied_by g (history log)) (drop l.from l.records))
