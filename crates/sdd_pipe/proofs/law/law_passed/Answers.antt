use Rattle.sdd_pipe.proofs.Digests.{passed_is}
use Rattle.sdd_pipe.proofs.law.law_passed.Goals as goal

pub returns : goal.returns
returns g = λ digest pipe t is. passed_is digest pipe is t
