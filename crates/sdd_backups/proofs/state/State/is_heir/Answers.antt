use Rattle.sdd_backups.proofs.All.{knows_in, sym, ◌∙◌}
use Rattle.sdd_backups.proofs.Walks.{every_goes_on}
use Rattle.sdd_backups.proofs.state.State.is_heir.Goals as goal

pub lower-preserved : goal.lower-preserved
lower-preserved c =
    c.lower.invariant ∙ every_goes_on (knows_in c.args.self.now c.args.site) c.lower.other c.args.site
    c.lower-test.true (sym c.if-not-knows.ensures)
