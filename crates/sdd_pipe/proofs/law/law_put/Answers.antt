use Rattle.sdd_pipe.proofs.Digests.{is_put}
use Rattle.sdd_pipe.proofs.law.law_put.Goals as goal

pub returns : goal.returns
returns g = is_put
