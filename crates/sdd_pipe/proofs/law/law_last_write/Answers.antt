use Rattle.sdd_pipe.proofs.Digests.{last_write_is}
use Rattle.sdd_pipe.proofs.law.law_last_write.Goals as goal

pub returns : goal.returns
returns g = λ digest pipe frags is. last_write_is digest pipe is frags
