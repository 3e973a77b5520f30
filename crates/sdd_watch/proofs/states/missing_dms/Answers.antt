use Rattle.sdd_watch.proofs.All.{lacked_by}
use Rattle.sdd_watch.proofs.Attempts.{lacks_back}
use Rattle.sdd_watch.proofs.states.missing_dms.Goals as goal

pub returns : goal.returns
returns c = lacks_back c.missing_dms.result.now (lacked_by c.args.line.now.active) c.missing_dms.ensures
