use Rattle.sdd_watch.proofs.RowsAreReported.{row_is}
use Rattle.sdd_watch.proofs.rows.row_at.Goals as goal

pub returns : goal.returns
returns c =
    row_is c.args.copies.now.value c.in-Some.copy.now c.args.frag c.args.key.now _ c.in-Some.ensures.0 c.in-Some.ensures.1 c.row.ensures
