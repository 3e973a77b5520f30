use Rattle.sdd_watch.proofs.All.{changes_applied, fold, refl, with_row}
use Rattle.sdd_watch.proofs.Folding.{folded_end, folded_more}
use Rattle.sdd_watch.proofs.RowsAreReported.{changes_join}
use Rattle.sdd_watch.proofs.rows.add_rows.Goals as goal

pub loop-change-init : goal.loop-change-init
loop-change-init c = λ g log calm. refl

pub loop-change-preserved : goal.loop-change-preserved
loop-change-preserved c = λ g log calm.
    folded_more (with_row g log) (changes_applied g c.args.dm) c.args.changes.now c.change-item.result c.loop-change.rows.items
    c.add_here.new.rows.items (fold (with_row g log) c.args.rows.now.items (changes_applied g c.args.dm c.args.changes.now))
    c.loop-change.change-index (changes_join g c.args.dm) c.loop-change-test.true c.change-item.is (c.in_ok-add_here.ensures g log calm)
    (c.loop-change.invariant g log calm)

pub returns : goal.returns
returns c = λ g log calm.
    folded_end (with_row g log) (changes_applied g c.args.dm) c.args.changes.now c.loop-change.rows.items
    (fold (with_row g log) c.args.rows.now.items (changes_applied g c.args.dm c.args.changes.now)) c.loop-change.change-index
    (changes_join g c.args.dm) c.loop-change-test.false (c.loop-change.invariant g log calm)
