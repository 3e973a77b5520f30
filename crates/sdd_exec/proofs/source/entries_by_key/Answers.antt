use Rattle.sdd_exec.proofs.All.{of_relation, rows_lent}
use Rattle.sdd_exec.proofs.Picked.{lent_at, lent_within}
use Rattle.sdd_exec.proofs.Shipping.{chosen_next}
use Rattle.sdd_exec.proofs.source.entries_by_key.Goals as goal

pub loop-row-preserved : goal.loop-row-preserved
loop-row-preserved c =
    let rows = c.args.rows.now in
    let i = c.loop-row.row-index in
    let row = c.row-item.result in
    let within = c.loop-row-test.true in
    chosen_next c.args.catalogue.now c.args.rel.0 c.args.conds.now (rows_lent rows) i row.now
    (of_relation c.args.rel.0 c.loop-row.entries) (of_relation c.args.rel.0 c.add_entry.new.entries)
    (lent_within rows i within) (lent_at rows i row within c.row-item.is) c.in_ok-add_entry.ensures c.loop-row.invariant
