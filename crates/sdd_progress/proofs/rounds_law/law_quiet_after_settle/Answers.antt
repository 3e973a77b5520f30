use Rattle.sdd_obligations.proofs.logs.AsLists.{left_between}
use Rattle.sdd_progress.proofs.AllEnds.{Settle, ◌∷◌}
use Rattle.sdd_progress.proofs.QuietAfter.{quiet_at_last, quiet_before}
use Rattle.sdd_progress.proofs.rounds_law.law_quiet_after_settle.Goals as goal

pub returns-clause-before_event : goal.returns-clause-before_event
returns-clause-before_event c = λ given log event events is. quiet_before given log event events (left_between given.events (Settle ∷ events) log is)

pub returns-clause-last : goal.returns-clause-last
returns-clause-last c = quiet_at_last
