use Rattle.sdd_backups.proofs.All.{answered_in, sym, ◌+◌, ◌∙◌}
use Rattle.sdd_backups.proofs.Walks.{every_goes_on}
use Rattle.sdd_backups.proofs.state.State.has_all_answers.Goals as goal

pub higher-preserved : goal.higher-preserved
higher-preserved c =
    c.higher.invariant ∙ every_goes_on (answered_in c.args.self.now c.args.site) c.higher.other (c.args.self.now.backups + 1)
    c.higher-test.true (sym c.if-not-has_answer.ensures)
