use Rattle.sdd_pipe.proofs.Digests.{is_empty_digest}
use Rattle.sdd_pipe.proofs.law.law_empty.Goals as goal

pub returns : goal.returns
returns g = is_empty_digest
