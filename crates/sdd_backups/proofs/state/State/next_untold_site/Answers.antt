use Rattle.sdd_backups.proofs.All.{sym, untold_in, ◌+◌, ◌∙◌}
use Rattle.sdd_backups.proofs.Walks.{first_goes_on}
use Rattle.sdd_backups.proofs.state.State.next_untold_site.Goals as goal

pub higher-preserved : goal.higher-preserved
higher-preserved c =
    c.higher.invariant ∙ first_goes_on (untold_in c.args.self.now c.args.site) c.higher.other (c.args.self.now.backups + 1)
    c.higher-test.true (sym c.if-is_untold.ensures)
