use Rattle.sdd_invariants.proofs.InPipe.{in_pipe_later}
use Rattle.sdd_invariants.proofs.seen_laws.law_pipes.Goals as goal

pub returns : goal.returns
returns g = in_pipe_later
