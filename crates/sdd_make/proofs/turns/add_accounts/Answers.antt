use Rattle.sdd_make.proofs.All.{refl, ◌+◌}
use Rattle.sdd_make.proofs.Drawn.{account_more}
use Rattle.sdd_make.proofs.turns.add_accounts.Goals as goal

pub rows-preserved : goal.rows-preserved
rows-preserved c =
    account_more c.args.first c.rows.i (c.args.first + c.rows.i) c.in_ok-account_row.field-0 c.rows.rows.items _ _
    c.rows-test.true refl c.in_ok-account_row.ensures c.in_ok-push.ensures.items c.rows.invariant
