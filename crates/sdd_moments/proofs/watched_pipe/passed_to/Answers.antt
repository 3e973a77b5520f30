-- The time is that of the head, or the greatest that was processed.
use Rattle.sdd_moments.proofs.All.{ap, or_zero, time_at}
use Rattle.sdd_moments.proofs.watched_pipe.passed_to.Goals as goal

pub returns-in-Some : goal.returns-in-Some
returns-in-Some c = ap (λ o. time_at (or_zero o)) c.in-Some.ensures

pub returns-in-None : goal.returns-in-None
returns-in-None c = ap (λ o. time_at (or_zero o)) c.in-None.ensures
