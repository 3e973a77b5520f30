use Rattle.sdd_watch.proofs.All.{arith}
use Rattle.sdd_watch.proofs.RowsAreReported.{copy_past, copy_within}
use Rattle.sdd_watch.proofs.rows.has_copy.Goals as goal

pub has_copy-requires : goal.has_copy-requires
has_copy-requires c = record { from = omega arith; to = omega arith }

pub returns-then-number-fragments : goal.returns-then-number-fragments
returns-then-number-fragments c =
    copy_past c.args.catalogue.now c.args.dm.0 c.args.frag.0 c.max-number.result c.max-number.ensures (omega arith)

pub returns : goal.returns
returns c = copy_within c.args.catalogue.now c.args.dm.0 c.args.frag.0 c.max-number.result c.has_copy.result c.max-number.ensures c.has_copy.ensures
