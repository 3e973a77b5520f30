use Rattle.sdd_watch.proofs.All.{after_ok, history, sym, ◌∙◌}
use Rattle.sdd_watch.proofs.RowsAreReported.{none_applied, some_applied}
use Rattle.sdd_watch.proofs.rows.add_applied.Goals as goal

pub returns-in-Some : goal.returns-in-Some
returns-in-Some c = after_ok c.add_rows.result _ _ c.add_rows.ensures (λ add g log calm same.
    some_applied g log (history log) c.args.records.now c.args.made.now c.in-Some.txn c.in-Some.dm c.changes.result.now c.args.rows.now.items
    c.add_rows.new.rows.items (sym c.in-Some.is ∙ c.applied_in.ensures) same c.changes.ensures (add g log calm))

pub returns-in-None : goal.returns-in-None
returns-in-None c = λ g log calm same.
    none_applied g log (history log) c.args.made.now c.args.rows.now.items (sym c.in-None.is ∙ c.applied_in.ensures)
