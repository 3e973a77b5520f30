use Rattle.sdd_pipe.proofs.Digests.{is_taken}
use Rattle.sdd_pipe.proofs.law.law_take.Goals as goal

pub returns : goal.returns
returns g = is_taken
